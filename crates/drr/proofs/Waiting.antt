-- How many packets wait on the line: an accepted arrival adds one, a pick that sends takes one, and an idle pick means that none waits.
use mathlib.Core.Path.{◌≡◌, refl}
use mathlib.Core.Bool.{false}
use mathlib.Core.Logic.{⊎_elim}
use Prim.Native.Nat.{ℕ, ◌+◌, ◌-◌, ◌≤◌, ◌<◌}
use native.Mathlib.Omega.{arith}
use lib.ListN.{length, replicate}
use Rattle.std.specs.Prelude.{None}
use Rattle.drr.specs.declared.Table.{Table}
use Rattle.drr.specs.Limits.{most_flows, most_maximum}
use Rattle.drr.specs.State.{Line, waiting_of, oldest, deficit_of, fresh_line}
use Rattle.drr.specs.Facts.{Sound}
use Rattle.drr.specs.Answers.{Answer, idle, sent_as}
use Rattle.drr.specs.Arrival.{put}
use Rattle.drr.specs.Pick.{next, open_at, closed, emptied, sent, Looks, Picks}
use Rattle.drr.specs.Pick.Looks.{idles, sends, passes}
use Rattle.drr.specs.Pick.Picks.{goes_on, closes, starts}
use Rattle.drr.specs.Computed.{pick_of}
use Rattle.drr.proofs.Bools.{below?}
use Rattle.drr.proofs.Steps.{low, found_in, visit_passes, place_in, on_ends}
use Rattle.drr.proofs.Sums.{over_flows, sum_set, sum_none}
use Rattle.drr.proofs.Visits.{length_most}
use Rattle.drr.proofs.Tables.{zero_at}
use Rattle.drr.proofs.One.{pick_is}
use Rattle.drr.proofs.Round.{search_none}

abbrev pub waiting_all : Line → ℕ
waiting_all l = over_flows l.counts

pub fresh_waits : (n : ℕ) → waiting_all (fresh_line n) ≡ 0
fresh_waits n = sum_none (replicate 16 0) (λ f _. zero_at 16 f)

pub put_waits : (T : Table) (l : Line) → Sound T l → (f len : ℕ) → f < T.n → waiting_all (put l f len) ≡ waiting_all l + 1
put_waits T l ok f len in_table =
    let inside = low T l ok f in_table in
    omega (arith, sum_set l.counts f (waiting_of l f + 1) inside (omega (arith, ok.shape.counts_length)))

-- a packet taken off the row of flow f
sent_waits : (T : Table) (l : Line) (f : ℕ) → f < most_flows → length l.counts ≡ most_flows → 0 < waiting_of l f →
    waiting_all (sent T l f) + 1 ≡ waiting_all l
sent_waits T l f inside long some = omega (arith, sum_set l.counts f (waiting_of l f - 1) inside (omega arith))

-- where the search finds nothing, nothing waits
none_waits : (T : Table) (l : Line) → Sound T l → next T l ≡ None → waiting_all l ≡ 0
none_waits T l ok e = sum_none l.counts (λ j low. ⊎_elim
    (λ in_table. ⊎_elim
    (λ p. ⊎_elim
    (λ some. absurd (search_none T.n l.place p l.counts e j in_table some))
    (λ none. omega arith)
    (below? 0 (waiting_of l j)))
    (λ q. absurd (omega (arith, q.0)))
    ok.placed)
    (λ past. ((ok.flows j low).unused past).no_count)
    (below? j T.n))

-- ---- what a pick answers: idle with nothing waiting, or sent with one less
pub data PickedAs (l : Line) (a : Answer) (t : Line) : Type 0 where
  idled : a ≡ idle → waiting_all t ≡ 0 → waiting_all l ≡ 0 → PickedAs l a t
  gave : (f len d v : ℕ) → a ≡ sent_as f len d v → waiting_all t + 1 ≡ waiting_all l → len ≤ most_maximum → PickedAs l a t

looks_as : {T : Table} {v : ℕ} {l : Line} {a : Answer} {t : Line} → Looks T v l a t → Sound T l → l.opened ≡ false → PickedAs l a t
looks_as {T} (idles {l = l} e) ok off = idled refl (none_waits T l ok e) (none_waits T l ok e)
looks_as {T} (sends {v = v} {l = l} {f = f} e enough) ok off =
    let k = found_in T l f e in
    gave f (oldest l f) (deficit_of (sent T (open_at T l f) f) f) (v + 1) refl
    (sent_waits T (open_at T l f) f (low T l ok f k.0) ok.shape.counts_length k.1) (length_most T l ok f k.0 k.1)
looks_as {T} (passes {l = l} {f = f} e short r) ok off = again (looks_as r (visit_passes T l ok f e off short) refl)
  where
    again : {a : Answer} {t : Line} → PickedAs (closed (open_at T l f)) a t → PickedAs l a t
    again (idled x y z) = idled x y z
    again (gave g len d w x y z) = gave g len d w x y z

picks_as : {T : Table} {l : Line} {a : Answer} {t : Line} → Picks T l a t → Sound T l → PickedAs l a t
picks_as {T} (goes_on {l = l} on r) ok =
    let k = place_in T l ok on in
    gave l.place (oldest l l.place) (deficit_of (sent T l l.place) l.place) 0 refl
    (sent_waits T l l.place (low T l ok l.place k) ok.shape.counts_length r.0) (length_most T l ok l.place k r.0)
picks_as {T} (closes {l = l} on stuck r) ok = again (looks_as r (on_ends T l ok on stuck) refl)
  where
    again : {a : Answer} {t : Line} → PickedAs (closed (emptied l)) a t → PickedAs l a t
    again (idled x y z) = idled x y z
    again (gave g len d w x y z) = gave g len d w x y z
picks_as (starts off r) ok = looks_as r ok off

pub pick_as : (T : Table) (l : Line) → Sound T l → PickedAs l (pick_of T l).answer (pick_of T l).line
pick_as T l ok = picks_as (pick_is T l ok) ok
