use Rattle.std.proofs.Common.{◌≡◌, take}
use Rattle.drr.specs.Setup.{cells}
use Rattle.scheduler.proofs.flows.filled.Given as goal

abbrev pub invariant-loop-f : goal.invariant-loop-f
invariant-loop-f l = record {
  quanta : l.quanta ≡ cells (λ r. r.quantum) 16 (take l.f l.records);
  maxima : l.maxima ≡ cells (λ r. r.maximum) 16 (take l.f l.records);
}
