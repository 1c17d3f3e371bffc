use Rattle.std.proofs.Common.{arith}
use Rattle.figures.proofs.Laws.{time_from, time_none}
use Rattle.figures.proofs.measures.Measures.time.Goals as goal

pub returns-then-rate-eq0 : goal.returns-then-rate-eq0
returns-then-rate-eq0 c = λ T i _. time_none T i c.args.rate c.if-rate-eq0.true

pub returns : goal.returns
returns c = λ T i are. rw (c.div_ceil.ensures, c.wait-bits.ensures.value T i are) (time_from T i c.args.rate (omega arith))
