-- The tests open the definition case by case; a state that passes the soundness test is sound, since it has its shape.
use Rattle.std.proofs.Common.{sym, ◌∙◌}
use borrow.Author.Tests.{le-leb, lt-leb}
use Rattle.drr.proofs.Facts.{sound_is}
use Rattle.drr.proofs.Shape.{shaped}
use Rattle.drr.proofs.Tables.{sound_ranged}
use Rattle.figures.specs.Answers.{asked_answer}
use Rattle.figures.proofs.asked.Goals as goal

pub returns-then-not-sound_line-clause-figure_value : goal.returns-then-not-sound_line-clause-figure_value
unfolding asked_answer
returns-then-not-sound_line-clause-figure_value c = λ figure. rw (sym c.sound_line.ensures ∙ c.if-not-sound_line.true)

pub returns-then-s-flow-clause-figure_value : goal.returns-then-s-flow-clause-figure_value
unfolding asked_answer
returns-then-s-flow-clause-figure_value c =
    λ figure. rw (sym c.sound_line.ensures ∙ c.if-not-sound_line.false, le-leb _ _ c.if-s-flow.true)

pub returns-clause-figure_value : goal.returns-clause-figure_value
unfolding asked_answer
returns-clause-figure_value c =
    λ figure. rw (sym c.sound_line.ensures ∙ c.if-not-sound_line.false, lt-leb _ _ c.if-s-flow.false)

pub returns-clause-sound_state : goal.returns-clause-sound_state
returns-clause-sound_state c =
    let told = sym c.sound_line.ensures ∙ c.if-not-sound_line.false in
    let sound = sound_is _ _ (shaped c.args.s _ c.well_formed.0) told in
    (sound, record { ranged = sound_ranged sound; below = c.if-s-flow.false })
