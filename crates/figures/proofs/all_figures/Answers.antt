use Rattle.std.proofs.Common.{◌≡◌, ℕ, ◌+◌, ◌≤◌, List, [], ◌∷◌, ◌++◌, length, drop, refl, sym, ap, zero-add, arith, length-append, length-drop, ◌∙◌}
use borrow.Author.Tests.{lt-ltb, le-ltb}
use Rattle.std.proofs.Math.ListN.{set, length-map}
use Rattle.std.proofs.Math.Seq.{paste}
use Rattle.std.proofs.lemmas.List.{get_or-map}
use Rattle.std.proofs.lemmas.List.Edits.{paste_more, paste_all, paste-paste}
use Rattle.figures.specs.Answers.{value_of, owed_answer, owed_each, figures_within}
use Rattle.figures.proofs.all_figures.Goals as goal

pub returns-then-out-count : goal.returns-then-out-count
unfolding figures_within
returns-then-out-count c = rw (lt-ltb _ _ c.if-out-count.true) (refl, refl)

pub loop-i-preserved : goal.loop-i-preserved
loop-i-preserved c =
    let a = c.args in
    let o = c.loop-i in
    let owes = owed_each a.s a.flow a.sizes.now in
    let long : length owes ≡ length a.sizes.now = length-map a.sizes.now _ in
    let own = ap (λ (l : List ℕ). length l) (c.copy_from_slice.ensures.after ∙ c.own_figures.ensures) in
    let told = c.value_of.ensures ∙ ap value_of c.owed.ensures
    ∙ sym (get_or-map (λ S. value_of (owed_answer a.s a.flow S)) a.sizes.now o.i 0 0 c.loop-i-test.true) in
    (λ j. set (o.invariant j) (5 + o.i) (told j))
    ∙ paste_more (c.copy_from_slice.new.self ++ drop 5 a.out.now) 5 owes o.i 0
    (omega (arith, length-append c.copy_from_slice.new.self (drop 5 a.out.now), own, length-drop 5 a.out.now))
    (omega arith)

-- five numbers, and more behind them
behind : (v w x y z : ℕ) (more out : List ℕ) → 5 + length more ≤ length out →
    let all = v ∷ w ∷ x ∷ y ∷ z ∷ more in
    paste (v ∷ w ∷ x ∷ y ∷ z ∷ drop 5 out) 5 more (length more) ≡ all ++ drop (length all) out
behind v w x y z more out room =
    let all = v ∷ w ∷ x ∷ y ∷ z ∷ more in
    let many : 5 + length more ≡ length all = omega arith in
    paste-paste out 0 (v ∷ w ∷ x ∷ y ∷ z ∷ []) more 5 (length more) refl refl (omega arith)
    ∙ paste_all out 0 all (5 + length more) many
    ∙ ap (λ (k : ℕ). all ++ drop k out) (zero-add (5 + length more) ∙ many)

pub returns : goal.returns
unfolding figures_within
returns c =
    let a = c.args in
    let o = c.loop-i in
    let owes = owed_each a.s a.flow a.sizes.now in
    let long : length owes ≡ length a.sizes.now = length-map a.sizes.now _ in
    let last : o.i ≡ length owes = omega arith in
    let own = c.copy_from_slice.ensures.after ∙ c.own_figures.ensures in
    rw (le-ltb _ _ c.if-out-count.false) (
      omega arith,
      o.invariant ∙ (λ j. paste (own j ++ drop 5 a.out.now) 5 owes (last j)) ∙ behind _ _ _ _ _ owes a.out.now (omega arith),
    )
