-- The visit is to the flow that the search found: `sym c.next_waiting.ensures.first ∙ c.in-Some.is` says so. Its oldest length stands in
-- the row that the line stores (`oldest_at`).
use Rattle.std.proofs.Common.{arith, sym, ◌∙◌}
use Rattle.drr.specs.State.{line_in}
use Rattle.engine.proofs.Rows.{oldest_at}
use Rattle.engine.proofs.Loop.{along_first, along_idles, along_on, along_falls, along_sends, room, fits, sendable}
use Rattle.engine.proofs.look.Goals as goal

pub loop-f-init : goal.loop-f-init
loop-f-init c = (along_first c.requires.sound c.requires.closed, c.requires.closed)

pub returns-in_default : goal.returns-in_default
returns-in_default c =
    rw c.loop-f.invariant.1 (along_idles _ _ (line_in c.loop-f.line) _ _ c.loop-f.invariant.0 (sym c.next_waiting.ensures.first ∙ c.in_default.is))

pub returns-then-charge-d : goal.returns-then-charge-d
returns-then-charge-d c =
    c.send.ensures
    ∙ along_sends _ _ (line_in c.loop-f.line) _ _ c.loop-f.invariant.0 _ (sym c.next_waiting.ensures.first ∙ c.in-Some.is)
    (rw (oldest_at c.args.table.now c.loop-f.line c.in-Some.f, ← c.charge_of-charge.ensures) c.if-charge-d.true)

pub loop-f-smaller : goal.loop-f-smaller
loop-f-smaller c =
    along_falls _ _ (line_in c.loop-f.line) _ _ c.loop-f.invariant.0 _ (sym c.next_waiting.ensures.first ∙ c.in-Some.is)
    (rw (oldest_at c.args.table.now c.loop-f.line c.in-Some.f, ← c.charge_of-charge.ensures) c.if-charge-d.false)

pub loop-f-preserved : goal.loop-f-preserved
loop-f-preserved c = (
  along_on _ _ (line_in c.loop-f.line) _ _ c.loop-f.invariant.0 _ (sym c.next_waiting.ensures.first ∙ c.in-Some.is)
      (rw (oldest_at c.args.table.now c.loop-f.line c.in-Some.f, ← c.charge_of-charge.ensures) c.if-charge-d.false),
  c.loop-f.invariant.1,
)

pub overflow_add-visits : goal.overflow_add-visits
overflow_add-visits c = omega (arith, room _ _ (line_in c.loop-f.line) _ _ c.loop-f.invariant.0)

pub overflow_add-d : goal.overflow_add-d
overflow_add-d c = omega (arith, fits _ _ (line_in c.loop-f.line) _ _ c.loop-f.invariant.0 _ (sym c.next_waiting.ensures.first ∙ c.in-Some.is))

pub send-requires : goal.send-requires
send-requires c =
    sendable _ _ (line_in c.loop-f.line) _ _ c.loop-f.invariant.0 _ (sym c.next_waiting.ensures.first ∙ c.in-Some.is)
    (rw (oldest_at c.args.table.now c.loop-f.line c.in-Some.f, ← c.charge_of-charge.ensures) c.if-charge-d.true)
