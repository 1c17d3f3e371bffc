use Rattle.std.proofs.Common.{◌≡◌, ◌≤◌, sum, arith, rules}
use Rattle.std.proofs.lemmas.List.Elements.{All-from_get_or}
use Rattle.std.proofs.lemmas.List.Sums.{sum_by-le}
use Rattle.figures.proofs.measures.sum_of.Goals as goal

pub returns-clause-within : goal.returns-clause-within
returns-clause-within c =
    let cells = c.args.cells.now in
    let each = All-from_get_or (λ x. x ≤ 4294967295) cells 0 (λ i _. omega (arith, c.type_inv.cells i)) in
    let total : c.sum.result ≡ sum cells = search rules in
    omega (arith, total, sum_by-le (λ x. x) 4294967295 cells each)
