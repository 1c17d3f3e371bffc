-- Arrivals and picks keep soundness; what a refusal and an idle pick leave.
use mathlib.Core.Path.{◌≡◌, refl, ap, ◌∙◌}
use mathlib.Core.Bool.{Bool, false}
use Prim.Native.Nat.{ℕ, ◌+◌}
use native.Mathlib.Omega.{arith}
use borrow.Author.Tests.{leb-false, ltb-false, eqb-false}
use lib.Dec.{ltb, leb, eqb}
use Rattle.std.specs.Prelude.{None}
use Rattle.drr.specs.Limits.{most_waiting}
use Rattle.drr.specs.declared.Table.{Table}
use Rattle.drr.specs.State.{Line, maximum_of, waiting_of}
use Rattle.drr.specs.Facts.{Sound}
use Rattle.drr.specs.Answers.{Answer, idle, Outcome, outcome}
use Rattle.drr.specs.Arrival.{arrival_of}
use Rattle.drr.specs.Pick.{next, Looks, Picks}
use Rattle.drr.specs.Pick.Looks.{idles, sends, passes}
use Rattle.drr.specs.Pick.Picks.{goes_on, closes, starts}
use Rattle.drr.specs.Computed.{look, turn, pick_at, pick_of}
use Rattle.drr.proofs.Bools.{by_test}
use Rattle.drr.proofs.Papers.{sent_not_idle}
use Rattle.drr.proofs.Steps.{puts, visit_passes, visit_sends, on_sends, on_ends}
use Rattle.drr.proofs.One.{look_unfolds, pick_is}

-- ---- an arrival
module _ (T : Table) (l : Line) (ok : Sound T l) (f len : ℕ) where
  pub arrival_keeps : Sound T (arrival_of T l f len).line
  unfolding arrival_of
  arrival_keeps =
      by_test (λ (o : Outcome). Sound T o.line) (leb T.n f) (λ _. ok) (λ a.
      by_test (λ (o : Outcome). Sound T o.line) (eqb len 0) (λ _. ok) (λ b.
      by_test (λ (o : Outcome). Sound T o.line) (ltb (maximum_of T f) len) (λ _. ok) (λ c.
      by_test (λ (o : Outcome). Sound T o.line) (leb most_waiting (waiting_of l f)) (λ _. ok) (λ d.
      puts T l ok f (leb-false T.n f a) len (omega (arith, eqb-false len 0 b)) (ltb-false (maximum_of T f) len c)
      (leb-false most_waiting (waiting_of l f) d)))))

-- refused, it leaves the line as it came
pub arrival_refused_lem : (T : Table) (l : Line) (f len : ℕ) → ((arrival_of T l f len).answer.refusal ≡ 0 → ⊥) → (arrival_of T l f len).line ≡ l
unfolding arrival_of
arrival_refused_lem T l f len =
    by_test P (leb T.n f) (λ _ _. refl) (λ _. by_test P (eqb len 0) (λ _ _. refl) (λ _.
    by_test P (ltb (maximum_of T f) len) (λ _ _. refl) (λ _.
    by_test P (leb most_waiting (waiting_of l f)) (λ _ _. refl) (λ _ no. absurd (no refl)))))
  where
    P : Outcome → Type 0
    P o = (o.answer.refusal ≡ 0 → ⊥) → o.line ≡ l

-- ---- a pick
looks_keep : {T : Table} {v : ℕ} {l : Line} {a : Answer} {t : Line} → Looks T v l a t → Sound T l → l.opened ≡ false → Sound T t
looks_keep (idles e) ok off = ok
looks_keep {T} (sends {l = l} {f = f} e enough) ok off = visit_sends T l ok f e off enough
looks_keep {T} (passes {l = l} {f = f} e short r) ok off = looks_keep r (visit_passes T l ok f e off short) refl

picks_keep : {T : Table} {l : Line} {a : Answer} {t : Line} → Picks T l a t → Sound T l → Sound T t
picks_keep {T} (goes_on {l = l} on r) ok = on_sends T l ok on r
picks_keep {T} (closes {l = l} on stuck r) ok = looks_keep r (on_ends T l ok on stuck) refl
picks_keep (starts off r) ok = looks_keep r ok off

pub pick_keeps : (T : Table) (l : Line) → Sound T l → Sound T (pick_of T l).line
pick_keeps T l ok = picks_keep (pick_is T l ok) ok

-- an idle pick leaves no visit open, and nothing to find
looks_idle : {T : Table} {v : ℕ} {l : Line} {a : Answer} {t : Line} → Looks T v l a t → a ≡ idle → l.opened ≡ false →
    (t.opened ≡ false) × (next T t ≡ None)
looks_idle (idles e) is off = (off, e)
looks_idle (sends e enough) is off = absurd (sent_not_idle is)
looks_idle (passes e short r) is off = looks_idle r is refl

picks_idle : {T : Table} {l : Line} {a : Answer} {t : Line} → Picks T l a t → a ≡ idle → (t.opened ≡ false) × (next T t ≡ None)
picks_idle (goes_on on r) is = absurd (sent_not_idle is)
picks_idle (closes on stuck r) is = looks_idle r is refl
picks_idle (starts off r) is = looks_idle r is off

-- "a second idle pick changes nothing"
pub idle_again : (T : Table) (l : Line) → Sound T l → (pick_of T l).answer ≡ idle →
    pick_of T (pick_of T l).line ≡ outcome idle (pick_of T l).line
idle_again T l ok is =
    let t = (pick_of T l).line in
    let z = picks_idle (pick_is T l ok) is in
    ap (λ (b : Bool). pick_at T b t) z.0
    ∙ look_unfolds T 0 t (pick_keeps T l ok) z.0
    ∙ ap (λ o. turn T 0 t o (look T (0 + 1))) z.1
