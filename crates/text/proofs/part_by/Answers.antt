use Rattle.std.proofs.Common.{get_or, ◌∙◌, arith}
use borrow.Author.Tests.{eq-eqb, ne_eqb}
use Rattle.text.proofs.Rows.{part_turn}
use Rattle.text.proofs.part_by.Goals as goal
use Rattle.text.proofs.part_by.Goals.{then-byte-eq32, else-byte-eq32}

pub loop-byte-preserved : goal.loop-byte-preserved
loop-byte-preserved c =
    let p = c.args.parting in
    let o = c.loop-byte in
    let x = get_or o.text o.byte-index 0 in
    let turn = part_turn p c.args.text.now o.text o.byte-index (omega arith) (omega arith) o.invariant in
    elim c.if-byte-eq32.branch [
      | then-byte-eq32 w ↦ w.text-is ∙ turn p (rw (eq-eqb x 32 w.if-byte-eq32.true))
      | else-byte-eq32 w ↦ w.text-is ∙ turn x (rw (ne_eqb x 32 w.if-byte-eq32.false))
    ]
