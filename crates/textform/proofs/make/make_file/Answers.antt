use Rattle.std.proofs.Common.{sym, ap, ◌∙◌, ◌≤◌, arith, rules}
use Rattle.std.proofs.Math.Seq.{length-take-le}
use Rattle.textform.specs.Made.{most_text, made_in}
use Rattle.textform.proofs.Ends.{too_long, not_too_long}
use Rattle.textform.proofs.Sizes.{whole}
use Rattle.textform.proofs.make.make_file.Goals as goal

pub returns-then-text-gt-MOST_TEXT-clause-value : goal.returns-then-text-gt-MOST_TEXT-clause-value
returns-then-text-gt-MOST_TEXT-clause-value c =
    c.faulty.ensures ∙ too_long c.args.text.now _ c.if-text-gt-MOST_TEXT.true c.newlines-line.ensures.0

pub returns-in-Ok : goal.returns-in-Ok
returns-in-Ok c =
    let text = c.args.text.now in
    let p = c.in-Ok.ensures in
    let r = whole text _ (c.made.ensures p.0 p.2 ∙ ap made_in (sym p.1) ∙ not_too_long text c.if-text-gt-MOST_TEXT.false) in
    record { value = r.0; whole = r.1 }

pub returns-in-Err-clause-value : goal.returns-in-Err-clause-value
returns-in-Err-clause-value c =
    let text = c.args.text.now in
    c.faulty-in-Err.ensures ∙ ap made_in (sym c.in-Err.ensures) ∙ not_too_long text c.if-text-gt-MOST_TEXT.false

pub slice_bounds-newlines-end : goal.slice_bounds-newlines-end
slice_bounds-newlines-end c = sym (length-take-le most_text c.args.text.now (omega (arith, c.if-text-gt-MOST_TEXT.true)))

pub overflow_add-line : goal.overflow_add-line
overflow_add-line c =
    let cut = length-take-le most_text c.args.text.now (omega (arith, c.if-text-gt-MOST_TEXT.true)) in
    let h : c.newlines-line.result ≤ most_text = omega (arith, c.newlines-line.ensures.1, cut) in
    search rules
