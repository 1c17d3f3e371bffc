use Rattle.text.proofs.Out.last_title.Goals as goal

pub returns-then-timed : goal.returns-then-timed
returns-then-timed c = rw c.if-timed.true c.bytes.ensures
