-- What inner functions ask of a table and of its numbers, and answer.
use Rattle.std.specs.Prelude.{◌≡◌, ℕ, ◌+◌, ◌*◌, ◌-◌, ◌<◌}
use Rattle.drr.specs.declared.Table.{Table}
use Rattle.drr.specs.Limits.{most_charge, most_quanta, most_charges}
use Rattle.drr.specs.State.{quantum_of, maximum_charge}
use Rattle.drr.specs.Facts.{Ranged}
use Rattle.drr.specs.Figures.{all_quanta, all_charges}
use Rattle.figures.specs.declared.measures.Measures.{Measures}

-- a flow of a table within setup's limits
pub record Known (T : Table) (flow : ℕ) : Type 0 where
  pub ranged : Ranged T
  pub below : flow < T.n

-- the measures are Q, l, F and L of flow i, with each l raised by the overhead
pub record AreOf (t : Measures) (T : Table) (i : ℕ) : Type 0 where
  pub quantum_is : t.quantum ≡ quantum_of T i
  pub charge_is : t.charge ≡ maximum_charge T i
  pub quanta_is : t.quanta ≡ all_quanta T
  pub charges_is : t.charges ≡ all_charges T

-- how far a wait goes: C / Q is at most L + F × (1 + l)
abbrev pub most_wait : ℕ
most_wait = most_charges + most_quanta * (1 + most_charge) + 1

-- "C = Q × (L - l) + (F - Q) × (Q + l)"
abbrev pub lag_from : Measures → ℕ
lag_from t = t.quantum * (t.charges - t.charge) + (t.quanta - t.quantum) * (t.quantum + t.charge)
