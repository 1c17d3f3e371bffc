use Rattle.std.proofs.Common.{ap, arith, ◌∙◌, ◌<◌}
use Rattle.drr.specs.Limits.{most_flows}
use Rattle.figures.specs.Answers.{figure_is}
use Rattle.figures.proofs.waiting_bytes.Goals as goal

-- behind the guard the state is sound, so the sum is that of the lengths that wait
pub returns : goal.returns
returns c =
    let known = c.in_ok-asked.ensures.sound_state in
    let low : c.args.flow < most_flows = omega (arith, known.0.flows_few, known.1.below) in
    ap figure_is (c.cell_at.ensures ∙ (known.0.flows c.args.flow low).true_sum) ∙ c.in_ok-asked.ensures.figure_value _
