use Rattle.std.proofs.Common.{◌≡◌, drop}
use Rattle.drr.specs.Setup.{flows_answer}
use Rattle.scheduler.proofs.flows.judged.Given as goal

abbrev pub invariant-loop-place : goal.invariant-loop-place
invariant-loop-place l = flows_answer 0 l.records ≡ flows_answer l.place (drop l.place l.records)
