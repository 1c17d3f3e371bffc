use Rattle.std.proofs.Common.{length, replicate, ap, ◌∙◌}
use Rattle.figures.specs.Answers.{value_of}
use Rattle.answers.proofs.Given.{as_text}
use Rattle.answers.proofs.FlowLines.{flow_text_lem, timed_flow_text}
use Rattle.answers.proofs.sheet.Sheet.put_flow.Goals as goal

pub returns-then-self-gt0 : goal.returns-then-self-gt0
returns-then-self-gt0 c =
    let a = c.args in
    let z = a.self.now in
    let time = c.value_of-time.ensures ∙ ap value_of c.wait_time.ensures in
    let text = timed_flow_text z.state z.sound a.flow c.requires.0 z.sizes.now z.sizes_few (replicate 21 0) _ _ (length a.buf.now) in
    as_text _ _ a.buf.now _ _ (text c.all_figures-n.ensures c.requires.1 z.dress.rate _ c.if-self-gt0.true time)
    (c.timed_text.ensures.value, c.timed_text.ensures.buf_after)

pub returns : goal.returns
returns c =
    let a = c.args in
    let z = a.self.now in
    let text = flow_text_lem z.state z.sound a.flow c.requires.0 z.sizes.now z.sizes_few (replicate 21 0) _ _ (length a.buf.now) in
    as_text _ _ a.buf.now _ _ (text c.all_figures-n.ensures c.requires.1 z.dress.rate c.if-self-gt0.false)
    (c.numbers_text.ensures.value, c.numbers_text.ensures.buf_after)
