use Rattle.scheduler.proofs.Setups.{cells_more}
use Rattle.scheduler.proofs.flows.filled.Goals as goal

pub loop-f-preserved : goal.loop-f-preserved
loop-f-preserved c =
    let rs = c.args.records.now in
    record {
      quanta = cells_more (λ r. r.quantum) rs c.loop-f.f _ c.loop-f.invariant.quanta c.loop-f-test.true;
      maxima = cells_more (λ r. r.maximum) rs c.loop-f.f _ c.loop-f.invariant.maxima c.loop-f-test.true;
    }
