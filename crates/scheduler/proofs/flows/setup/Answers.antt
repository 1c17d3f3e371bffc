use Rattle.std.proofs.Common.{◌≡◌, ◌∙◌, ap, take, rules, arith}
use Rattle.scheduler.proofs.Copied.{reply_on, copied_front, first_seventeen}
use Rattle.scheduler.proofs.flows.setup.Goals as goal

pub returns : goal.returns
returns c =
    let e : c.copy_from_slice.new.self ≡ take c.min-count.result c.args.list.now = search rules in
    c.setup_of.ensures ∙ ap (reply_on c.args.terms) (copied_front c.min-count.result _ _ c.args.list.now e (omega (arith, c.min-count.ensures))) ∙ first_seventeen c.args.list.now c.args.terms _ c.min-count.ensures
