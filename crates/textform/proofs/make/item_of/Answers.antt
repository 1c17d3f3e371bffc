use Rattle.std.proofs.Common.{ap, sym, ◌∙◌, ℕ, List, take, not, eqb, arith}
use Rattle.std.proofs.lemmas.List.{nil_from_length}
use Rattle.textform.specs.Grammar.{words_of, item_in, item_of}
use Rattle.textform.proofs.Scans.{leading_is, before_comment}
use Rattle.textform.proofs.make.item_of.Goals as goal

pub returns-then-is_empty : goal.returns-then-is_empty
unfolding item_of
returns-then-is_empty c =
    let l = c.args.line.now in
    let before = c.comment_at.ensures.value ∙ leading_is (λ b. not (eqb b 35)) l in
    let none = nil_from_length (take c.comment_at.result l) (grind (arith, c.is_empty.ensures, c.if-is_empty.true)) in
    ap (λ (t : List ℕ). item_in (words_of t)) (sym none ∙ ap (λ (k : ℕ). take k l) before ∙ before_comment l)

pub returns : goal.returns
unfolding item_of
returns c =
    let l = c.args.line.now in
    let before = c.comment_at.ensures.value ∙ leading_is (λ b. not (eqb b 35)) l in
    c.item_in.ensures ∙ ap (λ (t : List ℕ). item_in (words_of t)) (ap (λ (k : ℕ). take k l) before ∙ before_comment l)
