use Rattle.std.proofs.Common.{[], ◌∷◌, ap, ◌∙◌}
use Rattle.figures.specs.Answers.{value_of}
use Rattle.figures.proofs.own_figures.Goals as goal

pub returns : goal.returns
returns c =
    let lag = c.value_of.ensures ∙ ap value_of c.lag.ensures in
    let wait = c.value_of-2.ensures ∙ ap value_of c.wait.ensures in
    λ j. c.args.flow ∷ c.cell_at.ensures j ∷ c.cell_at-2.ensures j ∷ lag j ∷ wait j ∷ []
