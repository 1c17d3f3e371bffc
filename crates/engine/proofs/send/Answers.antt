use Rattle.std.proofs.Common.{ℕ, ◌≡◌, ◌<◌, length, get_or, set, rules}
use lib.Seq.{get_or-set_same}
use Rattle.engine.proofs.Rows.{row_at, row_put}
use Rattle.engine.proofs.send.Goals as goal

pub returns : goal.returns
returns c =
    let ds = c.args.line.now.deficits in
    let low : c.args.f < length ds = search (rules, c.requires.flow) in
    let left : ((d : ℕ) → get_or (set ds c.args.f d) c.args.f 0 ≡ d) = λ d. get_or-set_same ds c.args.f d 0 low in
    simp (c.charge_of.ensures, c.shift.ensures, left, row_at, row_put)
