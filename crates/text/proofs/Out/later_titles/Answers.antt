use Rattle.std.proofs.Common.{List, ℕ, ◌∷◌, ◌+◌, drop, get_or, ◌∙◌}
use Rattle.std.proofs.lemmas.List.{at_drop_more}
use Rattle.text.specs.Text.{owed_title}
use Rattle.text.proofs.Texts.{left_then}
use Rattle.text.proofs.Rows.{later}
use Rattle.text.proofs.Out.later_titles.Goals as goal

pub loop-size-preserved : goal.loop-size-preserved
loop-size-preserved c =
    let t = c.args.timed in
    let o = c.loop-size in
    let l = c.args.sizes.now in
    let k = o.size-index in (
      c.owed_title.ensures.same_buffer ∙ o.invariant.0,
      left_then o.invariant.1 (32 ∷ owed_title (get_or l k 0)) (later (drop (k + 1) l) t)
          (at_drop_more (λ (m : List ℕ). later m t) l k 0 c.loop-size-test.true) _ _ c.owed_title.ensures.put,
    )
