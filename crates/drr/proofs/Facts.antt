-- A line with its lengths is `Sound` exactly when the test `soundb` is true of it.
use Prim.Native.Nat.{ℕ, ◌+◌, ◌-◌, ◌≤◌, ◌<◌}
use mathlib.Core.Path.{◌≡◌, sym, ap, ◌∙◌}
use mathlib.Core.Bool.{Bool, true, not, ◌&&◌, ◌||◌}
use mathlib.Core.Logic.{inl, inr, ⊎_elim}
use native.Mathlib.Omega.{arith}
use borrow.Author.Tests.{not-true, leb-true, ltb-true, ltb-false, eqb-true, eqb-false, le-leb, lt-ltb, le-ltb, eq-eqb, ne_eqb}
use lib.Dec.{ltb, leb, eqb}
use lib.ListN.{get_or, take}
use Rattle.drr.specs.declared.Table.{Table}
use Rattle.drr.specs.State.{Line, quantum_of, maximum_of, deficit_of, waiting_of, sum_of, row_of, bytes_of, bytes_waiting}
use Rattle.drr.specs.State.{oldest_charge}
use Rattle.drr.specs.Limits.{least_quantum, most_quantum, least_maximum, most_maximum, most_overhead, most_waiting, most_flows}
use Rattle.drr.specs.Sound.{all, quantumb, maximumb, headb, rangeb, withinb, creditb, unusedb, flow_numbersb}
use Rattle.drr.specs.Sound.{visited, cellsb, sumb, flowb, soundb}
use Rattle.drr.specs.Facts.{Credit, InUse, Unused, Flow, Shaped, Sound}
use Rattle.drr.proofs.Bools.{and_left, and_right, and_both, or_cases, or_inl, or_inr, not_of, chosen, choose, within_of}
use Rattle.drr.proofs.Bools.{within_is, all_at, all_of, dec}
use Rattle.drr.proofs.Lengths.{bytes_free}

module _ (q m c : ℕ) where
  in_use : rangeb q m c ≡ true → InUse q m c
  in_use e =
      let w = and_left (quantumb q && maximumb m) (leb c most_waiting) e in
      let wq = within_is least_quantum most_quantum q (and_left (quantumb q) (maximumb m) w) in
      let wm = within_is least_maximum most_maximum m (and_right (quantumb q) (maximumb m) w) in
      record {
        quantum_least = wq.0;
        quantum_most = wq.1;
        maximum_least = wm.0;
        maximum_most = wm.1;
        count_most = leb-true c most_waiting (and_right (quantumb q && maximumb m) (leb c most_waiting) e);
      }

  of_in_use : InUse q m c → rangeb q m c ≡ true
  of_in_use u =
      and_both
      (and_both
      (within_of least_quantum most_quantum q u.quantum_least u.quantum_most)
      (within_of least_maximum most_maximum m u.maximum_least u.maximum_most))
      (le-leb c most_waiting u.count_most)

module _ (v : Bool) (d q c o : ℕ) where
  abbrev closedb : Bool
  closedb = (eqb c 0 && eqb d 0) || (not (eqb c 0) && ltb d o)

  credit_is : creditb v d q c o ≡ true → Credit v d q c o
  credit_is e =
      let k = chosen v (ltb d q) closedb e in
      record {
        visited_below = λ p. ltb-true d q (k.0 p);
        empty_zero = λ p z. eqb-true d 0 ((chosen (eqb c 0) (eqb d 0) (ltb d o) (k.1 p)).0 (eq-eqb c 0 z));
        waiting_below = λ p z. ltb-true d o
            ((chosen (eqb c 0) (eqb d 0) (ltb d o) (k.1 p)).1 (ne_eqb c 0 (λ y. omega arith)));
      }

  of_credit : Credit v d q c o → creditb v d q c o ≡ true
  of_credit u =
      choose v (ltb d q) closedb
      (λ p. lt-ltb d q (u.visited_below p))
      (λ p. choose (eqb c 0) (eqb d 0) (ltb d o)
      (λ z. eq-eqb d 0 (u.empty_zero p (eqb-true c 0 z)))
      (λ z. lt-ltb d o (u.waiting_below p (omega (arith, eqb-false c 0 z)))))

module _ (q m d c : ℕ) where
  unused_is : unusedb q m d c ≡ true → Unused q m d c
  unused_is e =
      let e2 = and_left (eqb q 0 && eqb m 0 && eqb d 0) (eqb c 0) e in
      let e1 = and_left (eqb q 0 && eqb m 0) (eqb d 0) e2 in
      record {
        no_quantum = eqb-true q 0 (and_left (eqb q 0) (eqb m 0) e1);
        no_maximum = eqb-true m 0 (and_right (eqb q 0) (eqb m 0) e1);
        no_deficit = eqb-true d 0 (and_right (eqb q 0 && eqb m 0) (eqb d 0) e2);
        no_count = eqb-true c 0 (and_right (eqb q 0 && eqb m 0 && eqb d 0) (eqb c 0) e);
      }

  of_unused : Unused q m d c → unusedb q m d c ≡ true
  of_unused u =
      and_both (and_both (and_both (eq-eqb q 0 u.no_quantum) (eq-eqb m 0 u.no_maximum)) (eq-eqb d 0 u.no_deficit))
      (eq-eqb c 0 u.no_count)

module _ (T : Table) (l : Line) (f : ℕ) where
  abbrev q : ℕ
  q = quantum_of T f

  abbrev m : ℕ
  m = maximum_of T f

  abbrev d : ℕ
  d = deficit_of l f

  abbrev c : ℕ
  c = waiting_of l f

  abbrev cell : ℕ → ℕ
  cell k = get_or (row_of l f) k 0

  abbrev range_of : Bool
  range_of = rangeb q m c

  abbrev credit_of : Bool
  credit_of = creditb (visited l f) d q c (oldest_charge T l f)

  -- the free cells are zero
  free_zero : all most_waiting (cellsb T l f) ≡ true → (k : ℕ) → k < most_waiting → c ≤ k → cell k ≡ 0
  unfolding cellsb
  free_zero a k x w =
      eqb-true (cell k) 0
      ((chosen (ltb k c) (withinb 1 m (cell k)) (eqb (cell k) 0) (all_at most_waiting (cellsb T l f) a k x)).1 (le-ltb k c w))

  -- .. so all cells of a row have the bytes that wait
  pub row_bytes : flow_numbersb T l f ≡ true → all most_waiting (cellsb T l f) ≡ true → bytes_of (take most_waiting (row_of l f)) ≡ bytes_waiting l f
  row_bytes n a =
      let h = chosen (ltb f T.n) (range_of && credit_of) (unusedb q m d c) n in
      let few : c ≤ most_waiting = ⊎_elim
      (λ p. (in_use q m c (and_left range_of credit_of (h.0 p))).count_most)
      (λ p. omega (arith, (unused_is q m d c (h.1 p)).no_count))
      (dec (ltb f T.n)) in
      let e : c + (most_waiting - c) ≡ most_waiting = omega arith in
      ap (λ (k : ℕ). bytes_of (take k (row_of l f))) (sym e)
      ∙ bytes_free (row_of l f) c (most_waiting - c) (λ j x. free_zero a j (omega arith))

  pub flow_is : flowb T l f ≡ true → Flow T l f
  unfolding flowb cellsb
  flow_is e =
      let a = flow_numbersb T l f in
      let b = all most_waiting (cellsb T l f) in
      let i = and_left (a && b) (sumb l f) e in
      let h = chosen (ltb f T.n) (range_of && credit_of) (unusedb q m d c) (and_left a b i) in
      let g : ((k : ℕ) → k < most_waiting → cellsb T l f k ≡ true) = all_at most_waiting (cellsb T l f) (and_right a b i) in
      record {
        used = λ x. in_use q m c (and_left range_of credit_of (h.0 (lt-ltb f T.n x)));
        credit = λ x. credit_is (visited l f) d q c (oldest_charge T l f) (and_right range_of credit_of (h.0 (lt-ltb f T.n x)));
        unused = λ x. unused_is q m d c (h.1 (le-ltb f T.n x));
        waiting = λ k x w. within_is 1 m (cell k) ((chosen (ltb k c) (withinb 1 m (cell k)) (eqb (cell k) 0) (g k x)).0 (lt-ltb k c w));
        rest = free_zero (and_right a b i);
        true_sum = eqb-true (sum_of l f) (bytes_waiting l f) (and_right (a && b) (sumb l f) e);
      }

  pub of_flow : Flow T l f → flowb T l f ≡ true
  unfolding flowb cellsb
  of_flow u =
      and_both
      (and_both
      (choose (ltb f T.n) (range_of && credit_of) (unusedb q m d c)
      (λ p. and_both (of_in_use q m c (u.used (ltb-true f T.n p)))
      (of_credit (visited l f) d q c (oldest_charge T l f) (u.credit (ltb-true f T.n p))))
      (λ p. of_unused q m d c (u.unused (ltb-false f T.n p))))
      (all_of most_waiting (cellsb T l f)
      (λ k x. choose (ltb k c) (withinb 1 m (cell k)) (eqb (cell k) 0)
      (λ p. let w = u.waiting k x (ltb-true k c p) in within_of 1 m (cell k) w.0 w.1)
      (λ p. eq-eqb (cell k) 0 (u.rest k x (ltb-false k c p))))))
      (eq-eqb (sum_of l f) (bytes_waiting l f) u.true_sum)

module _ (T : Table) (l : Line) where
  abbrev rangesb : Bool
  rangesb = leb T.n most_flows && leb T.overhead most_overhead

  abbrev noneb : Bool
  noneb = eqb T.n 0 && eqb T.overhead 0

  abbrev zerob : Bool
  zerob = noneb && eqb l.place 0

  abbrev placeb : Bool
  placeb = ltb l.place T.n || (zerob && not l.opened)

  pub sound_is : Shaped T l → soundb T l ≡ true → Sound T l
  unfolding soundb
  sound_is shape e =
      let a = headb T l in
      let b = all most_flows (flowb T l) in
      let h = and_left a b e in
      record {
        shape = shape;
        flows_few = leb-true T.n most_flows
            (and_left (leb T.n most_flows) (leb T.overhead most_overhead) (and_left rangesb placeb h));
        overhead_in_range = leb-true T.overhead most_overhead
            (and_right (leb T.n most_flows) (leb T.overhead most_overhead) (and_left rangesb placeb h));
        placed =
            ⊎_elim
            (λ p. inl (ltb-true l.place T.n p))
            (λ p. let y = and_left zerob (not l.opened) p in
            let z = and_left noneb (eqb l.place 0) y in
            inr (
              eqb-true T.n 0 (and_left (eqb T.n 0) (eqb T.overhead 0) z),
              eqb-true T.overhead 0 (and_right (eqb T.n 0) (eqb T.overhead 0) z),
              eqb-true l.place 0 (and_right noneb (eqb l.place 0) y),
              not-true l.opened (and_right zerob (not l.opened) p),
            ))
            (or_cases (ltb l.place T.n) (zerob && not l.opened) (and_right rangesb placeb h));
        flows = λ f x. flow_is T l f (all_at most_flows (flowb T l) (and_right a b e) f x);
      }

  pub of_sound : Sound T l → soundb T l ≡ true
  unfolding soundb
  of_sound u =
      and_both
      (and_both
      (and_both (le-leb T.n most_flows u.flows_few) (le-leb T.overhead most_overhead u.overhead_in_range))
      (⊎_elim
      (λ p. or_inl (ltb l.place T.n) (zerob && not l.opened) (lt-ltb l.place T.n p))
      (λ p. or_inr (ltb l.place T.n) (zerob && not l.opened)
      (and_both
      (and_both (and_both (eq-eqb T.n 0 p.0) (eq-eqb T.overhead 0 p.1)) (eq-eqb l.place 0 p.2))
      (not_of p.3)))
      u.placed))
      (all_of most_flows (flowb T l) (λ f x. of_flow T l f (u.flows f x)))
