use Rattle.std.proofs.Common.{◌+◌, drop, get_or, ◌∙◌}
use Rattle.std.proofs.lemmas.List.{at_drop_more}
use Rattle.text.specs.Text.{field_text, spaced_text}
use Rattle.text.proofs.Texts.{left_then}
use Rattle.text.proofs.Out.spaced.Goals as goal

pub loop-field-preserved : goal.loop-field-preserved
loop-field-preserved c =
    let o = c.loop-field in
    let l = c.args.fields.now in
    let k = o.field-index in (
      c.field.ensures.same_buffer ∙ o.invariant.0,
      left_then o.invariant.1 (field_text (get_or l k 0)) (spaced_text (drop (k + 1) l))
          (at_drop_more spaced_text l k 0 c.loop-field-test.true) _ _ c.field.ensures.put,
    )
