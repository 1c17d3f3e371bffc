-- The run as the list of its timed calls: it is timed, it books every event, it is the only such list, it leaves nothing waiting; and its
-- counts.
use mathlib.Core.Path.{◌≡◌, refl, sym, ap, subst, ◌∙◌}
use mathlib.Core.Bool.{Bool, true, false, cond}
use mathlib.Core.List.{List, [], ◌∷◌}
use Prim.Native.Nat.{ℕ, zero, suc, ◌+◌, ◌*◌, ◌≤◌}
use native.Mathlib.Omega.{arith}
use borrow.Author.Tests.{leb-true, leb-false}
use lib.Dec.{leb, eqb}
use lib.ListN.{length}
use Rattle.drr.specs.declared.Table.{Table}
use Rattle.drr.specs.State.{Line, fresh_line}
use Rattle.drr.specs.Facts.{Sound, Ranged}
use Rattle.drr.specs.Answers.{Answer}
use Rattle.drr.specs.Arrival.{arrival_of}
use Rattle.drr.specs.Computed.{pick_of}
use Rattle.drr.specs.Floor.{line_after}
use Rattle.drr.proofs.Bools.{by_test}
use Rattle.drr.proofs.Tables.{fresh_sound}
use Rattle.drr.proofs.Keeps.{arrival_keeps, pick_keeps}
use Rattle.drr.proofs.Waiting.{waiting_all, fresh_waits, PickedAs, idled, gave, pick_as}
use Rattle.runfile.specs.File.{Event, Sorted}
use Rattle.runfile.specs.Run.{Act, comes, asks, Clock, free, still, onward, Timed, booked_in, calls_in, calls, enough, run_of}
use Rattle.runfile.proofs.Going.{arrival_waits}

one_most : (b : Bool) → cond b 1 0 ≤ 1
one_most true = omega arith
one_most false = omega arith

arrival_most : (T : Table) (l : Line) → Sound T l → (f len : ℕ) → waiting_all (arrival_of T l f len).line ≤ waiting_all l + 1
arrival_most T l ok f len = omega (arith, arrival_waits T l ok f len, one_most (eqb (arrival_of T l f len).answer.refusal 0))

-- ---- the fuel that is left is enough: a pick is still to come on a line that falls free
abbrev pending : Clock → ℕ
pending still = 0
pending (free t) = 1

pick_fuel : (T : Table) (t k : ℕ) (l : Line) (a : Answer) (l' : Line) (m : ℕ) → PickedAs l a l' → m + 2 * waiting_all l + 1 ≤ suc k →
    m + 2 * waiting_all l' + pending (onward T t a) ≤ k
pick_fuel T t k l a l' m (idled e x y) h = rw e (omega (arith, x, y))
pick_fuel T t k l a l' m (gave f len d v e less most) h = rw e (omega (arith, less))

module _ (T : Table) where
  -- ---- the calls are timed
  pub calls_timed : (k : ℕ) (c : Clock) (low : ℕ) (es : List Event) (l : Line) → Sound T l → Sorted low es →
      4 * length es + 2 * waiting_all l + pending c ≤ k → Timed T low c (calls k T c es l) l
  unfolding calls
  calls_timed zero still low [] l ok so m = tt
  calls_timed zero still low (e ∷ es) l ok so m = absurd (omega arith)
  calls_timed zero (free t) low es l ok so m = absurd (omega arith)
  calls_timed (suc k) still low [] l ok so m = tt
  calls_timed (suc k) still low (e ∷ es) l ok so m = (
    so.0,
    calls_timed k (free e.tick) e.tick es (arrival_of T l e.flow e.length).line (arrival_keeps T l ok e.flow e.length)
        so.1
        (omega (arith, arrival_most T l ok e.flow e.length)),
  )
  calls_timed (suc k) (free t) low [] l ok so m = (
    refl,
    calls_timed k (onward T t (pick_of T l).answer) (suc t) [] (pick_of T l).line (pick_keeps T l ok) tt
        (pick_fuel T t k l (pick_of T l).answer (pick_of T l).line 0 (pick_as T l ok) m),
  )
  calls_timed (suc k) (free t) low (e ∷ es) l ok so m =
      by (leb e.tick t) refl
      (calls_timed k (free t) e.tick es (arrival_of T l e.flow e.length).line (arrival_keeps T l ok e.flow e.length) so.1
      (omega (arith, arrival_most T l ok e.flow e.length)))
      (λ later. calls_timed k (onward T t (pick_of T l).answer) (suc t) (e ∷ es) (pick_of T l).line (pick_keeps T l ok) (later, so.1)
      (pick_fuel T t k l (pick_of T l).answer (pick_of T l).line (4 * length (e ∷ es)) (pick_as T l ok) m))
    where
      l₁ : Line
      l₁ = (arrival_of T l e.flow e.length).line

      by : (b : Bool) → leb e.tick t ≡ b → Timed T e.tick (free t) (calls k T (free t) es l₁) l₁ →
          (suc t ≤ e.tick → Timed T (suc t) (onward T t (pick_of T l).answer)
          (calls k T (onward T t (pick_of T l).answer) (e ∷ es) (pick_of T l).line) (pick_of T l).line) →
          Timed T low (free t)
          (cond b (comes e.tick e.flow e.length ∷ calls k T (free t) es l₁)
          (asks t ∷ calls k T (onward T t (pick_of T l).answer) (e ∷ es) (pick_of T l).line)) l
      by true q book ask = (so.0, leb-true e.tick t q, book)
      by false q book ask = (refl, ask (leb-false e.tick t q))

  -- ---- .. and book every event, in the file's order
  pub calls_book : (k : ℕ) (c : Clock) (es : List Event) (l : Line) → Sound T l → 4 * length es + 2 * waiting_all l + pending c ≤ k →
      booked_in (calls k T c es l) ≡ es
  unfolding calls
  calls_book zero still [] l ok m = refl
  calls_book zero still (e ∷ es) l ok m = absurd (omega arith)
  calls_book zero (free t) es l ok m = absurd (omega arith)
  calls_book (suc k) still [] l ok m = refl
  calls_book (suc k) still (e ∷ es) l ok m =
      ap (λ (xs : List Event). e ∷ xs)
      (calls_book k (free e.tick) es (arrival_of T l e.flow e.length).line (arrival_keeps T l ok e.flow e.length)
      (omega (arith, arrival_most T l ok e.flow e.length)))
  calls_book (suc k) (free t) [] l ok m =
      calls_book k (onward T t (pick_of T l).answer) [] (pick_of T l).line (pick_keeps T l ok)
      (pick_fuel T t k l (pick_of T l).answer (pick_of T l).line 0 (pick_as T l ok) m)
  calls_book (suc k) (free t) (e ∷ es) l ok m =
      by (leb e.tick t)
      (calls_book k (free t) es (arrival_of T l e.flow e.length).line (arrival_keeps T l ok e.flow e.length)
      (omega (arith, arrival_most T l ok e.flow e.length)))
      (calls_book k (onward T t (pick_of T l).answer) (e ∷ es) (pick_of T l).line (pick_keeps T l ok)
      (pick_fuel T t k l (pick_of T l).answer (pick_of T l).line (4 * length (e ∷ es)) (pick_as T l ok) m))
    where
      l₁ : Line
      l₁ = (arrival_of T l e.flow e.length).line

      by : (b : Bool) → booked_in (calls k T (free t) es l₁) ≡ es →
          booked_in (calls k T (onward T t (pick_of T l).answer) (e ∷ es) (pick_of T l).line) ≡ e ∷ es →
          booked_in (cond b (comes e.tick e.flow e.length ∷ calls k T (free t) es l₁)
          (asks t ∷ calls k T (onward T t (pick_of T l).answer) (e ∷ es) (pick_of T l).line)) ≡ e ∷ es
      by true x y = ap (λ (xs : List Event). e ∷ xs) x
      by false x y = y

-- ---- two timed lists of calls that book the same events are the same
-- a line that falls free does so no earlier than the tick from which its events come, less one
abbrev Ahead : ℕ → Clock → Type 0
Ahead low still = Unit {0}
Ahead low (free t) = low ≤ suc t

ahead_next : (T : Table) (t : ℕ) (a : Answer) → Ahead (suc t) (onward T t a)
ahead_next T t a = by_test (Ahead (suc t)) a.sends (λ _. omega arith) (λ _. tt)

sorted_from : (low low' : ℕ) (es : List Event) → low ≤ low' → Sorted low' es → Sorted low es
sorted_from low low' [] h so = tt
sorted_from low low' (e ∷ es) h so = (omega (arith, so.0), so.1)

abbrev head_or : Event → List Event → Event
head_or d [] = d
head_or d (x ∷ xs) = x

abbrev tail_of : List Event → List Event
tail_of [] = []
tail_of (x ∷ xs) = xs

module _ (T : Table) where
  booked_sorted : (ks : List Act) (low : ℕ) (c : Clock) (l : Line) → Ahead low c → Timed T low c ks l → Sorted low (booked_in ks)
  booked_sorted [] low still l g h = tt
  booked_sorted [] low (free t) l g h = absurd h
  booked_sorted (comes a f n ∷ ks) low still l g h = (h.0, booked_sorted ks a (free a) (arrival_of T l f n).line (omega arith) h.1)
  booked_sorted (comes a f n ∷ ks) low (free t) l g h =
      (h.0, booked_sorted ks a (free t) (arrival_of T l f n).line (omega (arith, h.1)) h.2)
  booked_sorted (asks u ∷ ks) low still l g h = absurd h
  booked_sorted (asks u ∷ ks) low (free t) l g h =
      sorted_from low (suc t) (booked_in ks) g
      (booked_sorted ks (suc t) (onward T t (pick_of T l).answer) (pick_of T l).line (ahead_next T t (pick_of T l).answer) h.1)

  -- an event at or before t is booked before the pick at t
  too_late : (ks : List Act) (t : ℕ) (l : Line) (e : Event) (es : List Event) →
      Timed T (suc t) (onward T t (pick_of T l).answer) ks (pick_of T l).line → e ∷ es ≡ booked_in ks → e.tick ≤ t → ⊥
  too_late ks t l e es h b early =
      let so = subst (Sorted (suc t)) (sym b)
      (booked_sorted ks (suc t) (onward T t (pick_of T l).answer) (pick_of T l).line (ahead_next T t (pick_of T l).answer) h) in
      omega (arith, so.0)

  pub one_timed : (ks js : List Act) (low low' : ℕ) (c : Clock) (l : Line) → Timed T low c ks l → Timed T low' c js l →
      booked_in ks ≡ booked_in js → ks ≡ js
  one_timed [] [] low low' c l h h' b = refl
  one_timed [] (comes a f n ∷ js) low low' c l h h' b = absurd (let z = ap length b in omega arith)
  one_timed [] (asks u ∷ js) low low' still l h h' b = absurd h'
  one_timed [] (asks u ∷ js) low low' (free t) l h h' b = absurd h
  one_timed (comes a f n ∷ ks) [] low low' c l h h' b = absurd (let z = ap length b in omega arith)
  one_timed (asks u ∷ ks) [] low low' still l h h' b = absurd h
  one_timed (asks u ∷ ks) [] low low' (free t) l h h' b = absurd h'
  one_timed (comes a f n ∷ ks) (comes a' f' n' ∷ js) low low' still l h h' b =
      let e = ap (head_or (record { tick = 0; flow = 0; length = 0 })) b in
      let on = one_timed ks js a a' (free a) (arrival_of T l f n).line h.1
      (subst (λ (x : Event). Timed T a' (free x.tick) js (arrival_of T l x.flow x.length).line) (sym e) h'.1) (ap tail_of b) in
      λ i. comes (e i).tick (e i).flow (e i).length ∷ on i
  one_timed (comes a f n ∷ ks) (comes a' f' n' ∷ js) low low' (free t) l h h' b =
      let e = ap (head_or (record { tick = 0; flow = 0; length = 0 })) b in
      let on = one_timed ks js a a' (free t) (arrival_of T l f n).line h.2
      (subst (λ (x : Event). Timed T a' (free t) js (arrival_of T l x.flow x.length).line) (sym e) h'.2) (ap tail_of b) in
      λ i. comes (e i).tick (e i).flow (e i).length ∷ on i
  one_timed (comes a f n ∷ ks) (asks u ∷ js) low low' still l h h' b = absurd h'
  one_timed (comes a f n ∷ ks) (asks u ∷ js) low low' (free t) l h h' b = absurd (too_late js t l _ _ h'.1 b h.1)
  one_timed (asks u ∷ ks) (comes a f n ∷ js) low low' still l h h' b = absurd h
  one_timed (asks u ∷ ks) (comes a f n ∷ js) low low' (free t) l h h' b = absurd (too_late ks t l _ _ h.1 (sym b) h'.1)
  one_timed (asks u ∷ ks) (asks u' ∷ js) low low' still l h h' b = absurd h
  one_timed (asks u ∷ ks) (asks u' ∷ js) low low' (free t) l h h' b =
      let on = one_timed ks js (suc t) (suc t) (onward T t (pick_of T l).answer) (pick_of T l).line h.1 h'.1 b in
      λ i. asks ((h.0 ∙ sym h'.0) i) ∷ on i

  -- ---- at the end nothing waits
  abbrev Quiet : Clock → Line → Type 0
  Quiet still l = waiting_all l ≡ 0
  Quiet (free t) l = Unit {0}

  quiet_next : (t : ℕ) (l : Line) (a : Answer) (l' : Line) → PickedAs l a l' → Quiet (onward T t a) l'
  quiet_next t l a l' (idled e x y) = rw e x
  quiet_next t l a l' (gave f len d v e less most) = rw e tt

  pub none_left : (ks : List Act) (low : ℕ) (c : Clock) (l : Line) → Sound T l → Quiet c l → Timed T low c ks l →
      waiting_all (line_after T l (calls_in ks)) ≡ 0
  none_left [] low still l ok q h = q
  none_left [] low (free t) l ok q h = absurd h
  none_left (comes a f n ∷ ks) low still l ok q h = none_left ks a (free a) (arrival_of T l f n).line (arrival_keeps T l ok f n) tt h.1
  none_left (comes a f n ∷ ks) low (free t) l ok q h =
      none_left ks a (free t) (arrival_of T l f n).line (arrival_keeps T l ok f n) tt h.2
  none_left (asks u ∷ ks) low still l ok q h = absurd h
  none_left (asks u ∷ ks) low (free t) l ok q h =
      none_left ks (suc t) (onward T t (pick_of T l).answer) (pick_of T l).line (pick_keeps T l ok)
      (quiet_next t l (pick_of T l).answer (pick_of T l).line (pick_as T l ok)) h.1

-- ---- the run of these events on a fresh line
module _ (T : Table) (ranged : Ranged T) (es : List Event) where
  pub run_books : booked_in (run_of T es) ≡ es
  run_books = calls_book T (enough es) (free 0) es (fresh_line T.n) (fresh_sound ranged) (omega (arith, fresh_waits T.n))

  module _ (sorted : Sorted 0 es) where
    pub run_timed : Timed T 0 (free 0) (run_of T es) (fresh_line T.n)
    run_timed = calls_timed T (enough es) (free 0) 0 es (fresh_line T.n) (fresh_sound ranged) sorted (omega (arith, fresh_waits T.n))

    pub run_only : (ks : List Act) → Timed T 0 (free 0) ks (fresh_line T.n) → booked_in ks ≡ es → ks ≡ run_of T es
    run_only ks h b = one_timed T ks (run_of T es) 0 0 (free 0) (fresh_line T.n) h run_timed (b ∙ sym run_books)

    pub run_empties : waiting_all (line_after T (fresh_line T.n) (calls_in (run_of T es))) ≡ 0
    run_empties = none_left T (run_of T es) 0 (free 0) (fresh_line T.n) (fresh_sound ranged) tt run_timed
