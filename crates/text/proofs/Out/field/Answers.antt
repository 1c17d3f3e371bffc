use Rattle.text.proofs.Texts.{puts_two}
use Rattle.text.proofs.Out.field.Goals as goal

pub returns : goal.returns
returns c = puts_two c.byte.ensures c.number.ensures
