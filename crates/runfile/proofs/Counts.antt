-- What a run's lines tell: one for each event, then line 3 with its tick; and that the run's calls are the public ones.
use mathlib.Core.Path.{◌≡◌, refl, sym, ap, ◌∙◌}
use mathlib.Core.Bool.{Bool, true, false, cond}
use mathlib.Core.List.{List, [], ◌∷◌, ◌++◌, append_assoc, append-nil}
use Prim.Native.Nat.{ℕ, ◌+◌, ◌*◌, ◌<◌}
use native.Mathlib.Omega.{arith}
use borrow.Author.Tests.{eqb-true}
use lib.Dec.{eqb}
use lib.ListN.{length, take, length-append}
use Rattle.drr.specs.declared.Table.{Table}
use Rattle.drr.specs.State.{Line, waiting_of, row_of, lengths_in, bytes_waiting, charge, state_from}
use Rattle.drr.specs.Facts.{Sound}
use Rattle.drr.specs.Answers.{Answer, length_in, reply}
use Rattle.drr.specs.Arrival.{arrival_of}
use Rattle.drr.specs.Computed.{pick_of}
use Rattle.drr.specs.Floor.{reply_to, line_after, given_in, added_to}
use Rattle.drr.proofs.Bools.{by_test}
use Rattle.drr.proofs.Keeps.{arrival_keeps, pick_keeps}
use Rattle.drr.proofs.Waiting.{waiting_all, PickedAs, idled, gave, pick_as}
use Rattle.drr.proofs.Sums.{sum_at}
use Rattle.drr.proofs.Steps.{low}
use Rattle.drr.proofs.Demand3.{calls_keep, reply_is}
use Rattle.drr.proofs.Rows.{pick_takes, arrival_adds}
use Rattle.runfile.specs.declared.turns.Tally.{Tally}
use Rattle.runfile.specs.Run.{Act, comes, asks, outcome_of, booked_in, call_in, calls_in}
use Rattle.runfile.specs.Listing.{tally, start_line, line_for, after_event, after_pick, after_act, tally_after, end_line, lines_of}
use Rattle.runfile.specs.Listing.{beside_of, beside_all, listing, ends, ticks_of, last_of, accepted_to, sent_to}
use Rattle.runfile.proofs.Going.{lines, arrival_waits, event_counts, event_size}

-- a call on the line is document 01's call on the state made of it
pub act_is_call : (T : Table) (l : Line) → Sound T l → (k : Act) →
    reply_to (state_from T l) (call_in k) ≡ reply (outcome_of T l k).answer (state_from T (outcome_of T l k).line)
act_is_call T l ok k = reply_is T l ok (call_in k)

-- the count after a packet sent at t
abbrev sent_one : Table → ℕ → Answer → Tally → Tally
sent_one T t a y = tally (y.sent + 1) y.refused (t + charge T (length_in a))

-- ---- one call: its line, the count after it, and the packets that wait
pick_counts : (T : Table) (t : ℕ) (y : Tally) (l : Line) (a : Answer) (l' : Line) → PickedAs l a l' →
    lines (after_pick T t a y) + waiting_all l' ≡ lines y + waiting_all l
pick_counts T t y l a l' (idled e x z) = rw e (omega (arith, x, z))
pick_counts T t y l a l' (gave f len d v e less most) = rw e (omega (arith, less))

pick_line : (T : Table) (t : ℕ) (y : Tally) (l : Line) (a : Answer) (l' : Line) → PickedAs l a l' →
    length (start_line t a) + 6 * lines y ≡ 6 * lines (after_pick T t a y)
pick_line T t y l a l' (idled e x z) = rw e (omega arith)
pick_line T t y l a l' (gave f len d v e less most) = rw e (omega arith)

-- .. and the number beside it
event_beside : (v : List ℕ) → length v ≡ 6 → (n : ℕ) (b : Bool) → 6 * length (cond b [] (n ∷ [])) ≡ length (cond b [] v)
event_beside v e n true = omega arith
event_beside v e n false = omega (arith, e)

pick_beside : (t : ℕ) (l : Line) (a : Answer) (l' : Line) → PickedAs l a l' →
    6 * length (beside_of (asks t) a l') ≡ length (start_line t a)
pick_beside t l a l' (idled e x z) = rw e (omega arith)
pick_beside t l a l' (gave f len d v e less most) = rw e (omega arith)

module _ (T : Table) where
  -- ---- at every point, the lines written and the packets that wait are the events booked
  pub each_one : (ks : List Act) (l : Line) (y : Tally) → Sound T l →
      lines (tally_after T ks l y) + waiting_all (line_after T l (calls_in ks)) ≡ lines y + waiting_all l + length (booked_in ks)
  each_one [] l y ok = omega arith
  each_one (comes a f n ∷ ks) l y ok =
      omega (
        arith,
        each_one ks (arrival_of T l f n).line (after_event a (arrival_of T l f n).answer.refusal y) (arrival_keeps T l ok f n),
        arrival_waits T l ok f n,
        event_counts y (eqb (arrival_of T l f n).answer.refusal 0),
      )
  each_one (asks t ∷ ks) l y ok =
      omega (
        arith,
        each_one ks (pick_of T l).line (after_pick T t (pick_of T l).answer y) (pick_keeps T l ok),
        pick_counts T t y l (pick_of T l).answer (pick_of T l).line (pick_as T l ok),
      )

  -- ---- the listing is the calls' lines and line 3, six numbers each
  pub listing_is : (ks : List Act) (l : Line) (y : Tally) → listing T ks l y ≡ lines_of T ks l ++ end_line (tally_after T ks l y)
  unfolding listing
  listing_is [] l y = refl
  listing_is (k ∷ ks) l y =
      ap (λ (xs : List ℕ). line_for k (outcome_of T l k).answer ++ xs)
      (listing_is ks (outcome_of T l k).line (after_act T k (outcome_of T l k).answer y))
      ∙ sym (append_assoc (line_for k (outcome_of T l k).answer) (lines_of T ks (outcome_of T l k).line)
      (end_line (tally_after T ks (outcome_of T l k).line (after_act T k (outcome_of T l k).answer y))))

  pub lines_length : (ks : List Act) (l : Line) (y : Tally) → Sound T l →
      length (lines_of T ks l) + 6 * lines y ≡ 6 * lines (tally_after T ks l y)
  lines_length [] l y ok = omega arith
  lines_length (comes a f n ∷ ks) l y ok =
      simp length-append (omega (
        arith,
        lines_length ks (arrival_of T l f n).line (after_event a (arrival_of T l f n).answer.refusal y) (arrival_keeps T l ok f n),
        event_size 6 y (2 ∷ a ∷ f ∷ n ∷ (arrival_of T l f n).answer.refusal ∷ 0 ∷ []) refl (eqb (arrival_of T l f n).answer.refusal 0),
      ))
  lines_length (asks t ∷ ks) l y ok =
      simp length-append (omega (
        arith,
        lines_length ks (pick_of T l).line (after_pick T t (pick_of T l).answer y) (pick_keeps T l ok),
        pick_line T t y l (pick_of T l).answer (pick_of T l).line (pick_as T l ok),
      ))

  -- ---- beside each of these lines there is one number
  pub beside_each : (ks : List Act) (l : Line) → Sound T l → 6 * length (beside_all T ks l) ≡ length (lines_of T ks l)
  beside_each [] l ok = omega arith
  beside_each (comes a f n ∷ ks) l ok =
      simp length-append (omega (
        arith,
        beside_each ks (arrival_of T l f n).line (arrival_keeps T l ok f n),
        event_beside (2 ∷ a ∷ f ∷ n ∷ (arrival_of T l f n).answer.refusal ∷ 0 ∷ []) refl (bytes_waiting (arrival_of T l f n).line f)
            (eqb (arrival_of T l f n).answer.refusal 0),
      ))
  beside_each (asks t ∷ ks) l ok =
      simp length-append (omega (
        arith,
        beside_each ks (pick_of T l).line (pick_keeps T l ok),
        pick_beside t l (pick_of T l).answer (pick_of T l).line (pick_as T l ok),
      ))

  -- ---- line 3 counts the packets sent ..
  pub ends_count : (ks : List Act) (l : Line) (y : Tally) → (tally_after T ks l y).sent ≡ y.sent + length (ends T ks l)
  ends_count [] l y = omega arith
  ends_count (comes a f n ∷ ks) l y = ends_count ks (arrival_of T l f n).line (after_event a (arrival_of T l f n).answer.refusal y)
  ends_count (asks t ∷ ks) l y = go a.sends (ends_count ks (pick_of T l).line)
    where
      a : Answer
      a = (pick_of T l).answer

      go : (b : Bool) → ((z : Tally) → (tally_after T ks (pick_of T l).line z).sent ≡ z.sent + length (ends T ks (pick_of T l).line)) →
          (tally_after T ks (pick_of T l).line (cond b (sent_one T t a y) y)).sent
          ≡ y.sent + length (cond b ((t + charge T (length_in a)) ∷ []) [] ++ ends T ks (pick_of T l).line)
      go false on = on y
      go true on = omega (arith, on (sent_one T t a y))

  -- ---- .. and its tick: the end of the last packet sent ..
  past : (s a b : ℕ) → 0 < s → cond (eqb s 0) a b ≡ b
  past s a b some = by_test (λ (x : ℕ). x ≡ b) (eqb s 0) (λ e. absurd (omega (arith, eqb-true s 0 e))) (λ _. refl)

  sent_last : (ks : List Act) (l : Line) (y : Tally) → 0 < y.sent → (tally_after T ks l y).last ≡ last_of y.last (ends T ks l)
  sent_last [] l y some = refl
  sent_last (comes a f n ∷ ks) l y some =
      sent_last ks (arrival_of T l f n).line (after_event a (arrival_of T l f n).answer.refusal y) some
      ∙ ap (λ (x : ℕ). last_of x (ends T ks (arrival_of T l f n).line)) (past y.sent a y.last some)
  sent_last (asks t ∷ ks) l y some = go a.sends (sent_last ks (pick_of T l).line)
    where
      a : Answer
      a = (pick_of T l).answer

      go : (b : Bool) →
          ((z : Tally) → 0 < z.sent → (tally_after T ks (pick_of T l).line z).last ≡ last_of z.last (ends T ks (pick_of T l).line)) →
          (tally_after T ks (pick_of T l).line (cond b (sent_one T t a y) y)).last
          ≡ last_of y.last (cond b ((t + charge T (length_in a)) ∷ []) [] ++ ends T ks (pick_of T l).line)
      go false on = on y some
      go true on = on (sent_one T t a y) (omega arith)

  -- .. or, where none was sent, the tick of the latest event
  pub last_is : (ks : List Act) (l : Line) (y : Tally) → y.sent ≡ 0 →
      (tally_after T ks l y).last ≡ last_of (last_of y.last (ticks_of (booked_in ks))) (ends T ks l)
  last_is [] l y none = refl
  last_is (comes a f n ∷ ks) l y none =
      last_is ks (arrival_of T l f n).line (after_event a (arrival_of T l f n).answer.refusal y) none
      ∙ ap (λ (s : ℕ). last_of (last_of (cond (eqb s 0) a y.last) (ticks_of (booked_in ks))) (ends T ks (arrival_of T l f n).line)) none
  last_is (asks t ∷ ks) l y none = go a.sends (last_is ks (pick_of T l).line y none)
    where
      a : Answer
      a = (pick_of T l).answer

      booked : ℕ
      booked = last_of y.last (ticks_of (booked_in ks))

      go : (b : Bool) → (tally_after T ks (pick_of T l).line y).last ≡ last_of booked (ends T ks (pick_of T l).line) →
          (tally_after T ks (pick_of T l).line (cond b (sent_one T t a y) y)).last
          ≡ last_of booked (cond b ((t + charge T (length_in a)) ∷ []) [] ++ ends T ks (pick_of T l).line)
      go false on = on
      go true on = sent_last ks (pick_of T l).line (sent_one T t a y) (omega arith)

-- ---- first in, first out: flow i's packets are sent in the order of its accepted events, each once
module _ (T : Table) (i : ℕ) (i<n : i < T.n) where
  pub in_turn : (ks : List Act) (l : Line) → Sound T l →
      lengths_in l i ++ accepted_to T ks l i ≡ sent_to T ks l i ++ lengths_in (line_after T l (calls_in ks)) i
  in_turn [] l ok = append-nil (lengths_in l i)
  in_turn (comes a f n ∷ ks) l ok =
      let more = added_to (arrival_of T l f n).answer.refusal f n i in
      let l₁ = (arrival_of T l f n).line in
      sym (append_assoc (lengths_in l i) more (accepted_to T ks l₁ i))
      ∙ ap (λ (xs : List ℕ). xs ++ accepted_to T ks l₁ i) (sym (arrival_adds T i i<n l ok f n))
      ∙ in_turn ks l₁ (arrival_keeps T l ok f n)
  in_turn (asks t ∷ ks) l ok =
      let gone = given_in (pick_of T l).answer i in
      let l₁ = (pick_of T l).line in
      ap (λ (xs : List ℕ). xs ++ accepted_to T ks l₁ i) (pick_takes T i i<n l ok)
      ∙ append_assoc gone (lengths_in l₁ i) (accepted_to T ks l₁ i)
      ∙ ap (λ (xs : List ℕ). gone ++ xs) (in_turn ks l₁ (pick_keeps T l ok))
      ∙ sym (append_assoc gone (sent_to T ks l₁ i) (lengths_in (line_after T l₁ (calls_in ks)) i))

  no_lengths : (l : Line) → Sound T l → waiting_all l ≡ 0 → lengths_in l i ≡ []
  no_lengths l ok h =
      let none : waiting_of l i ≡ 0 = omega (arith, sum_at l.counts i (low T l ok i i<n)) in
      ap (λ (k : ℕ). take k (row_of l i)) none

  -- from a line on which nothing waits to another
  pub all_in_turn : (ks : List Act) (l : Line) → Sound T l → waiting_all l ≡ 0 → waiting_all (line_after T l (calls_in ks)) ≡ 0 →
      accepted_to T ks l i ≡ sent_to T ks l i
  all_in_turn ks l ok before after =
      ap (λ (xs : List ℕ). xs ++ accepted_to T ks l i) (sym (no_lengths l ok before)) ∙ in_turn ks l ok
      ∙ ap (λ (xs : List ℕ). sent_to T ks l i ++ xs) (no_lengths (line_after T l (calls_in ks)) (calls_keep T l ok (calls_in ks)) after)
      ∙ append-nil (sent_to T ks l i)
