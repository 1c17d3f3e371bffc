use Rattle.std.proofs.Common.{refl, sym, ◌∙◌}
use Rattle.textform.proofs.Steps.{one_overhead}
use Rattle.textform.proofs.progress.Progress.put_overhead.Goals as goal

pub returns : goal.returns
returns c d k =
    one_overhead c.args.self.now _ d k c.args.overhead c.if-self-gt0.false (sym c.is_some.ensures ∙ c.if-is_some.false) refl refl refl refl refl
