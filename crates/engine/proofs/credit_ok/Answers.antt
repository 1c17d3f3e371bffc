use borrow.Author.Tests.{ne_eqb}
use Rattle.engine.proofs.Rows.{oldest_at}
use Rattle.engine.proofs.credit_ok.Goals as goal
use Rattle.engine.proofs.credit_ok.Goals.{else-line-via-then-line+else-line-f, else-line-via-else-line}

pub returns-else-line-f-eq0 : goal.returns-else-line-f-eq0
returns-else-line-f-eq0 c =
    let waits = ne_eqb _ 0 c.if-line-f-eq0.false in
    let cost = oldest_at c.args.table.now c.args.line.now c.args.f in
    elim c.else-line.branch [
      | else-line-via-then-line+else-line-f w ↦ simp (w.if-line.true, ne_eqb _ _ w.if-line-f.false, waits, cost, c.charge_of.ensures)
      | else-line-via-else-line w ↦ simp (w.if-line.false, waits, cost, c.charge_of.ensures)
    ]
