use Rattle.std.proofs.Common.{length, refl}
use Rattle.answers.proofs.Given.{as_text}
use Rattle.answers.proofs.Overhead.{overhead_none, overhead_some}
use Rattle.answers.proofs.overhead_line.Goals as goal

pub returns-then-overhead-eq0 : goal.returns-then-overhead-eq0
returns-then-overhead-eq0 c =
    let a = c.args in
    as_text _ _ a.buf.now _ _ (overhead_none a.overhead (length a.buf.now) c.if-overhead-eq0.true) (refl, refl)

pub returns : goal.returns
returns c =
    let a = c.args in
    as_text _ _ a.buf.now _ _ (overhead_some a.overhead (length a.buf.now) _ c.if-overhead-eq0.false c.from.ensures)
    (c.around_text.ensures.value, c.around_text.ensures.buf_after)
