use Rattle.figures.proofs.Laws.{wait_from}
use Rattle.figures.proofs.measures.Measures.wait.Goals as goal

pub returns-clause-value : goal.returns-clause-value
returns-clause-value c = λ T i are. rw c.lag.ensures (wait_from are)
