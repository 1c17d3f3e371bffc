-- The figures from a flow's measures, and how far the measures of a flow go.
use Rattle.std.specs.Prelude.{sum, take}
use Rattle.std.specs.Int.{div_ceil}
use Rattle.std.proofs.Common.{◌≡◌, sym, ap, ◌∙◌, ℕ, zero, suc, List, length, get_or, refl, add-one, lt_of_mul-lt-mul_right, ◌+◌, ◌*◌, ◌-◌, ◌/◌, ◌≤◌, ◌<◌, arith}
use Rattle.std.proofs.Math.Nat.{mul-le-mul_right}
use Rattle.std.proofs.lemmas.Grind.{div_ceil_times}
use Rattle.std.proofs.lemmas.List.Sums.{sum_by_more}
use borrow.Author.Tests.{eq-eqb, ne_eqb, le-leb, leb-true}
use lib.Dec.{leb}
use Rattle.drr.specs.declared.Table.{Table}
use Rattle.drr.specs.Limits.{most_quantum, most_charge, most_quanta, most_charges}
use Rattle.drr.specs.State.{quantum_of, maximum_of, maximum_charge}
use Rattle.drr.specs.Figures.{total, all_quanta, all_charges, lag, Least, owed, wait}
use Rattle.drr.proofs.Sums.{total_at, total_most, total_add, total_each}
use Rattle.drr.proofs.Figures.{owed_least, wait_formula, least_one, least_of, least_from_lem}
use Rattle.figures.specs.declared.measures.Measures.{Measures}
use Rattle.figures.specs.Needs.{Known, AreOf, lag_from}
use Rattle.figures.specs.Time.{slowest, wait_time}

-- ---- the figures as the code computes them, of measures that are the flow's
-- division that rounds up
ceil_least : (F x : ℕ) → 0 < F → Least (λ b. x ≤ F * b) (div_ceil x F)
ceil_least F x pos = record {
  holds = omega (arith, div_ceil_times x F pos);
  least = λ b h. let low : div_ceil x F < suc b = lt_of_mul-lt-mul_right F (omega (arith, div_ceil_times x F pos)) in omega arith;
}

module _ {t : Measures} {T : Table} {i : ℕ} (are : AreOf t T i) where
  pos : 0 < quantum_of T i
  pos = omega (arith, are.quantum_is, t.quantum_least)

  some : 0 < all_quanta T
  some = omega (arith, are.quantum_is, are.quanta_is, t.quantum_least, t.quantum_in)

  lag_is : lag_from t ≡ lag T i
  lag_is = rw (are.quantum_is, are.charge_is, are.quanta_is, are.charges_is) (λ _. lag T i)

  pub owed_from : (S : ℕ) → div_ceil (t.quantum * S - lag_from t) t.quanta ≡ owed T i S
  owed_from S =
      rw (lag_is, are.quantum_is, are.quanta_is)
      (least_one (ceil_least (all_quanta T) (quantum_of T i * S - lag T i) some) (owed_least T i some S))

  pub wait_from : lag_from t / t.quantum + 1 ≡ wait T i
  wait_from = rw (lag_is, are.quantum_is) (sym (wait_formula T i some pos))

-- ---- a wait in time
pub time_least : (T : Table) (i rate : ℕ) → 0 < rate → Least (λ t. slowest T i ≤ rate * t) (wait_time T i rate)
unfolding wait_time
time_least T i rate pos =
    let all = slowest T i in
    let found = least_of (λ t. (leb-true all (rate * t), le-leb all (rate * t)))
    (least_from_lem (λ t. leb all (rate * t)) 0 all (le-leb all (rate * (0 + all)) (omega (arith, mul-le-mul_right all pos)))
    (λ y h. omega arith)) in
    rw (ne_eqb rate 0 (λ z. omega arith)) found

pub time_from : (T : Table) (i rate : ℕ) → 0 < rate → div_ceil (slowest T i) rate ≡ wait_time T i rate
time_from T i rate pos = least_one (ceil_least rate (slowest T i) pos) (time_least T i rate pos)

pub time_none : (T : Table) (i rate : ℕ) → rate ≡ 0 → 0 ≡ wait_time T i rate
unfolding wait_time
time_none T i rate e = rw (eq-eqb rate 0 e)

-- ---- the measures as they are read of a flow of a table within setup's limits
-- the sum of the cells that are read
total_cells : (xs : List ℕ) (n : ℕ) → n ≤ length xs → sum (take n xs) ≡ total n (λ f. get_or xs f 0)
total_cells xs zero h = refl
total_cells xs (suc n) h =
    ap (λ (k : ℕ). sum (take k xs)) (sym (add-one n)) ∙ sum_by_more (λ x. x) xs n 0 (omega arith)
    ∙ ap (λ (x : ℕ). x + get_or xs n 0) (total_cells xs n (omega arith))

module _ {T : Table} {i : ℕ} (k : Known T i) where
  pub quanta_read : sum (take T.n T.quanta) ≡ all_quanta T
  quanta_read = total_cells T.quanta T.n (omega (arith, k.ranged.flows_few, k.ranged.quanta_length))

  pub charges_read : sum (take T.n T.maxima) + T.n * T.overhead ≡ all_charges T
  charges_read =
      let maxima = total_cells T.maxima T.n (omega (arith, k.ranged.flows_few, k.ranged.maxima_length)) in
      omega (arith, maxima, total_add T.n (maximum_of T) (λ _. T.overhead), total_each T.n T.overhead)

  charge_low : (f : ℕ) → f < T.n → maximum_charge T f ≤ most_charge
  charge_low f h = omega (arith, (k.ranged.maximum_in f h).1, k.ranged.overhead_in_range)

  pub charge_in : maximum_charge T i ≤ all_charges T
  charge_in = total_at T.n (maximum_charge T) i k.below

  pub quanta_most : all_quanta T ≤ most_quanta
  quanta_most = omega (arith, k.ranged.flows_few, total_most T.n (quantum_of T) most_quantum (λ f h. (k.ranged.quantum_in f h).1))

  pub charges_most : all_charges T ≤ most_charges
  charges_most = omega (arith, k.ranged.flows_few, total_most T.n (maximum_charge T) most_charge charge_low)
