use Rattle.std.proofs.Common.{sym, ap}
use Rattle.text.specs.Text.{decimal}
use Rattle.text.proofs.Texts.{puts_two, puts_as}
use Rattle.text.proofs.Out.owed_title.Goals as goal

pub returns : goal.returns
returns c = puts_two c.bytes.ensures (puts_as (ap decimal (sym c.from.ensures)) c.number.ensures)
