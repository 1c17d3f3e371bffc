-- Where the overhead is 0 the run, its listing and its refusals are document 01's without one.
use mathlib.Core.Path.{◌≡◌, refl, ap, ◌∙◌}
use mathlib.Core.Bool.{cond}
use mathlib.Core.List.{List, [], ◌∷◌, ◌++◌}
use Prim.Native.Nat.{ℕ, zero, suc, ◌+◌, ◌*◌}
use native.Mathlib.Omega.{arith}
use borrow.Author.Tests.{eq-eqb, le-ltb}
use lib.Dec.{ltb, leb}
use lib.ListN.{length}
use Rattle.drr.specs.declared.Table.{Table}
use Rattle.drr.specs.Limits.{most_overhead}
use Rattle.drr.specs.State.{Line, charge, fresh_line}
use Rattle.drr.specs.Answers.{Answer, fine, refused_at, length_in, Outcome}
use Rattle.drr.specs.Arrival.{arrival_of}
use Rattle.drr.specs.Computed.{pick_of}
use Rattle.drr.specs.Setup.{flows_answer}
use Rattle.drr.specs.Before.{pick_of as pick_before}
use Rattle.drr.proofs.Before.{pick_same}
use Rattle.runfile.specs.declared.turns.Tally.{Tally}
use Rattle.runfile.specs.File.{Event, event_count, overhead_in, flows_in, events_in, ticks_answer, first_refused, header_answer}
use Rattle.runfile.specs.File.{file_answer, run_answer}
use Rattle.runfile.specs.Run.{Act, comes, asks, Clock, free, still, onward, calls, enough, run_of, outcome_of, table_in}
use Rattle.runfile.specs.Listing.{tally, line_for, after_act, listing, run_listing, beside_of, beside_all, run_waiting}
use Rattle.runfile.specs.Before as before

module _ (T : Table) (none : T.overhead ≡ 0) where
  ends_same : (t : ℕ) (a : Answer) → t + charge T (length_in a) ≡ t + length_in a
  ends_same t a = omega (arith, none)

  onward_same : (t : ℕ) (a : Answer) → onward T t a ≡ before.onward t a
  onward_same t a = ap (λ (x : ℕ). cond a.sends (free x) still) (ends_same t a)

  -- a pick at t, and the calls after it
  module _ (k t : ℕ) (es : List Event) (l : Line)
      (on : (c : Clock) (m : Line) → calls k T c es m ≡ before.calls k T c es m) where
    asks_same :
        calls k T (onward T t (pick_of T l).answer) es (pick_of T l).line
        ≡ before.calls k T (before.onward t (pick_before T l).answer) es (pick_before T l).line
    asks_same =
        on (onward T t (pick_of T l).answer) (pick_of T l).line
        ∙ ap (λ (c : Clock). before.calls k T c es (pick_of T l).line) (onward_same t (pick_of T l).answer)
        ∙ ap (λ (o : Outcome). before.calls k T (before.onward t o.answer) es o.line) (pick_same T none l)

  calls_same : (k : ℕ) (c : Clock) (es : List Event) (l : Line) → calls k T c es l ≡ before.calls k T c es l
  unfolding calls before.calls
  calls_same zero c es l = refl
  calls_same (suc k) still [] l = refl
  calls_same (suc k) still (e ∷ es) l =
      ap (λ (ks : List Act). comes e.tick e.flow e.length ∷ ks)
      (calls_same k (free e.tick) es (arrival_of T l e.flow e.length).line)
  calls_same (suc k) (free t) [] l =
      ap (λ (ks : List Act). asks t ∷ ks) (asks_same k t [] l (λ c m. calls_same k c [] m))
  calls_same (suc k) (free t) (e ∷ es) l =
      let booked = calls_same k (free t) es (arrival_of T l e.flow e.length).line in
      let asked = asks_same k t (e ∷ es) l (λ c m. calls_same k c (e ∷ es) m) in
      λ i. cond (leb e.tick t) (comes e.tick e.flow e.length ∷ booked i) (asks t ∷ asked i)

  outcome_same : (l : Line) (k : Act) → outcome_of T l k ≡ before.outcome_of T l k
  outcome_same l (comes tick flow length) = refl
  outcome_same l (asks tick) = pick_same T none l

  after_same : (k : Act) (a : Answer) (y : Tally) → after_act T k a y ≡ before.after_act k a y
  after_same (comes tick flow length) a y = refl
  after_same (asks tick) a y = ap (λ (x : ℕ). cond a.sends (tally (y.sent + 1) y.refused x) y) (ends_same tick a)

  listing_same : (ks : List Act) (l : Line) (y : Tally) → listing T ks l y ≡ before.listing T ks l y
  unfolding listing before.listing
  listing_same [] l y = refl
  listing_same (k ∷ ks) l y =
      let o = outcome_of T l k in
      ap (λ (xs : List ℕ). line_for k o.answer ++ xs) (listing_same ks o.line (after_act T k o.answer y))
      ∙ ap (λ (z : Tally). line_for k o.answer ++ before.listing T ks o.line z) (after_same k o.answer y)
      ∙ ap (λ (z : Outcome). line_for k z.answer ++ before.listing T ks z.line (before.after_act k z.answer y)) (outcome_same l k)

  beside_same : (ks : List Act) (l : Line) → beside_all T ks l ≡ before.beside_all T ks l
  beside_same [] l = refl
  beside_same (k ∷ ks) l =
      let o = outcome_of T l k in
      ap (λ (xs : List ℕ). beside_of k o.answer o.line ++ xs) (beside_same ks o.line)
      ∙ ap (λ (z : Outcome). beside_of k z.answer z.line ++ before.beside_all T ks z.line) (outcome_same l k)

  run_same : (es : List Event) → run_of T es ≡ before.run_of T es
  run_same es = calls_same (enough es) (free 0) es (fresh_line T.n)

-- ---- a file whose last header field is 0
module _ (b : List ℕ) (none : overhead_in b ≡ 0) where
  abbrev fresh : Line
  fresh = fresh_line (table_in b).n

  pub listing_as_before : run_listing b ≡ before.run_listing b
  listing_as_before =
      listing_same (table_in b) none (run_of (table_in b) (events_in b)) fresh (tally 0 0 0)
      ∙ ap (λ (ks : List Act). before.listing (table_in b) ks fresh (tally 0 0 0)) (run_same (table_in b) none (events_in b))

  pub waiting_as_before : run_waiting b ≡ before.run_waiting b
  waiting_as_before =
      beside_same (table_in b) none (run_of (table_in b) (events_in b)) fresh
      ∙ ap (λ (ks : List Act). before.beside_all (table_in b) ks fresh) (run_same (table_in b) none (events_in b))

  header_same : header_answer b ≡ before.header_answer b
  unfolding header_answer before.header_answer
  header_same = rw (le-ltb most_overhead (overhead_in b) (omega arith), eq-eqb (overhead_in b) 0 none)

  file_same : file_answer b ≡ before.file_answer b
  unfolding file_answer before.file_answer
  file_same =
      ap (λ (a : Answer). first_refused a (first_refused (flows_answer 0 (flows_in b)) (ticks_answer 0 0 (events_in b)))) header_same

  pub answer_as_before : (room : ℕ) → run_answer b room ≡ before.run_answer b room
  unfolding run_answer before.run_answer
  answer_as_before room =
      ap (λ (a : Answer). first_refused a (cond (ltb room (6 * (event_count b + 1))) (refused_at 14 0) fine)) file_same
