-- Why a pick ends: each visit raises the sum of the deficits, and the sum has a bound.
use mathlib.Core.Path.{◌≡◌, ap}
use mathlib.Core.Bool.{Bool, false, ◌&&◌}
use mathlib.Core.Logic.{⊎_elim}
use Prim.Native.Nat.{ℕ, ◌+◌, ◌-◌, ◌≤◌, ◌<◌}
use native.Mathlib.Omega.{arith}
use lib.Dec.{eqb}
use Rattle.std.specs.Prelude.{Some}
use Rattle.drr.specs.declared.Table.{Table}
use Rattle.drr.specs.Limits.{most_flows, most_maximum, most_charge, most_charges}
use Rattle.drr.specs.State.{Line, quantum_of, deficit_of, waiting_of, oldest, oldest_charge}
use Rattle.drr.specs.Facts.{Sound}
use Rattle.drr.specs.Pick.{next, open_at}
use Rattle.drr.proofs.Bools.{same?, below?}
use Rattle.drr.proofs.Sums.{over_flows, sum_set, sum_most}
use Rattle.drr.proofs.Steps.{found_in}

module _ (T : Table) (l : Line) (ok : Sound T l) where
  -- the length of a packet that waits, and what it is charged
  pub length_most : (f : ℕ) → f < T.n → 0 < waiting_of l f → oldest l f ≤ most_maximum
  length_most f q c =
      let h = ok.flows f (omega (arith, ok.flows_few)) in
      omega (arith, (h.used q).maximum_most, (h.waiting 0 (omega arith) c).1)

  pub charge_most : (f : ℕ) → f < T.n → 0 < waiting_of l f → oldest_charge T l f ≤ most_charge
  charge_most f q c = omega (arith, length_most f q c, ok.overhead_in_range)

  -- with no visit open
  module _ (off : l.opened ≡ false) where
    pub deficit_most : (f : ℕ) → f < most_flows → deficit_of l f ≤ most_charge - 1
    deficit_most f low = ⊎_elim
        (λ q. let h = (ok.flows f low).credit q in
        ⊎_elim
        (λ e. omega (arith, h.empty_zero unvisited e))
        (λ some. let c : 0 < waiting_of l f = omega (arith, some) in omega (arith, charge_most f q c, h.waiting_below unvisited c))
        (same? (waiting_of l f) 0))
        (λ q. omega (arith, ((ok.flows f low).unused q).no_deficit))
        (below? f T.n)
      where
        unvisited : (l.opened && eqb l.place f) ≡ false
        unvisited = ap (λ (b : Bool). b && eqb l.place f) off

    pub sum_low : over_flows l.deficits < most_charges
    sum_low = omega (arith, sum_most l.deficits (most_charge - 1) deficit_most)

  pub grows : (f : ℕ) → next T l ≡ Some f → over_flows l.deficits + 1 ≤ over_flows (open_at T l f).deficits
  grows f at =
      let in_table = (found_in T l f at).0 in
      let low : f < most_flows = omega (arith, ok.flows_few) in
      let q = ((ok.flows f low).used in_table).quantum_least in
      let z = sum_set l.deficits f (deficit_of l f + quantum_of T f) low (omega (arith, ok.shape.deficits_length)) in
      omega arith
