use Rattle.std.proofs.Common.{not, sym, ap, ◌∙◌}
use Rattle.drr.proofs.Facts.{sound_is}
use Rattle.drr.proofs.Shape.{shaped}
use Rattle.drr.proofs.States.{refuses, answers}
use Rattle.scheduler.proofs.pick.Goals as goal

pub returns-then-not-sound_in : goal.returns-then-not-sound_in
returns-then-not-sound_in c = refuses _ _ _ _ c.sound_in.ensures (ap not c.if-not-sound_in.true)

pub returns : goal.returns
returns c = answers _ _ _ _ c.sound_in.ensures (ap not c.if-not-sound_in.false) _ _ c.pick_in-answer.ensures

pub pick_in-answer-requires : goal.pick_in-answer-requires
pick_in-answer-requires c = sound_is _ _ (shaped c.args.s _ c.well_formed.0) (sym c.sound_in.ensures ∙ c.if-not-sound_in.false)
