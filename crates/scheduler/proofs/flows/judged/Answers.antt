use Rattle.std.proofs.Common.{sym, ◌∙◌}
use Rattle.scheduler.proofs.Setups.{bad_quantum, bad_maximum}
use Rattle.scheduler.proofs.flows.judged.Goals as goal

pub returns-then-quantum-lt-LEAST_QUANTUM : goal.returns-then-quantum-lt-LEAST_QUANTUM
returns-then-quantum-lt-LEAST_QUANTUM c =
    let l = c.loop-place in
    bad_quantum c.args.records.now l.place c.loop-place-test.true c.then-quantum-lt-LEAST_QUANTUM.either ∙ sym l.invariant

pub returns-then-maximum-lt-LEAST_MAXIMUM : goal.returns-then-maximum-lt-LEAST_MAXIMUM
returns-then-maximum-lt-LEAST_MAXIMUM c =
    let l = c.loop-place in
    bad_maximum c.args.records.now l.place c.loop-place-test.true
    c.if-quantum-lt-LEAST_QUANTUM.false c.if-quantum-gt-MOST_QUANTUM.false c.then-maximum-lt-LEAST_MAXIMUM.either
    ∙ sym l.invariant
