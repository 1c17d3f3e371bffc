use Rattle.figures.proofs.Laws.{owed_from}
use Rattle.figures.proofs.measures.Measures.owed.Goals as goal

pub returns : goal.returns
returns c = λ T i are. rw (c.div_ceil.ensures, c.saturating_sub.ensures, c.from.ensures, c.lag.ensures) (owed_from are c.args.bytes)
