use Rattle.std.proofs.Common.{rules}
use Rattle.engine.proofs.Rows.{row_shifted}
use Rattle.engine.proofs.shift.Goals as goal

pub returns : goal.returns
returns c = rw c.copy_within.ensures.after (row_shifted c.args.row.now (search rules))
