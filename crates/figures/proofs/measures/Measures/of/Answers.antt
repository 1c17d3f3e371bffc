use Rattle.std.proofs.Common.{refl, arith, ◌∙◌}
use Rattle.figures.proofs.Laws.{quanta_read, charges_read, charge_in, quanta_most, charges_most}
use Rattle.figures.proofs.measures.Measures.of.Goals as goal

pub returns : goal.returns
returns c = record {
  quantum_is = c.from.ensures;
  charge_is = rw (c.from-2.ensures, c.u64_of_u32-overhead.ensures.0) refl;
  quanta_is = c.sum_of.ensures.total ∙ quanta_read c.requires;
  charges_is = rw (c.sum_of-2.ensures.total, c.u64_of_u32-overhead.ensures.0, c.u64_of_usize.ensures) (charges_read c.requires);
}

-- that they are within their limits
pub invariant_of-result-clause-charge_in : goal.invariant_of-result-clause-charge_in
invariant_of-result-clause-charge_in c =
    rw (c.from-2.ensures, c.sum_of-2.ensures.total, c.u64_of_u32-overhead.ensures.0, c.u64_of_usize.ensures) (omega (arith, charges_read c.requires, charge_in c.requires))

pub invariant_of-result-clause-quanta_most : goal.invariant_of-result-clause-quanta_most
invariant_of-result-clause-quanta_most c = omega (arith, c.sum_of.ensures.total, quanta_read c.requires, quanta_most c.requires)

pub invariant_of-result-clause-charges_most : goal.invariant_of-result-clause-charges_most
invariant_of-result-clause-charges_most c =
    rw (c.sum_of-2.ensures.total, c.u64_of_u32-overhead.ensures.0, c.u64_of_usize.ensures) (omega (arith, charges_read c.requires, charges_most c.requires))
