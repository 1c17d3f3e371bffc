-- No file has more events than there is room for beside the lines.
use Rattle.std.proofs.Common.{ℕ, List, replicate, ◌∙◌}
use Rattle.std.proofs.lemmas.List.{length-replicate}
use Rattle.drr.specs.Limits.{most_events}
use Rattle.runfile.proofs.Whole.{answer_same, lines_same}
use Rattle.runfile.proofs.run.Goals as goal

pub returns : goal.returns
returns c =
    let a = c.args in
    let beside : List ℕ = replicate most_events 0 in
    let wide = length-replicate {A = ℕ} most_events 0 in
    record {
      result_value = c.run_waiting.ensures.result_value ∙ answer_same a.file.now a.out.now beside wide;
      out_after = c.run_waiting.ensures.out_after ∙ lines_same a.file.now a.out.now beside wide;
    }
