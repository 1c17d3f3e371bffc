use Rattle.std.proofs.Common.{ap, ◌∙◌}
use Rattle.exports.specs.Told.{figure_told}
use Rattle.exports.proofs.wikulambag_waiting_bytes.Goals as goal

pub returns : goal.returns
returns c = c.from.ensures ∙ ap figure_told c.waiting_bytes.ensures
