use Rattle.std.proofs.Common.{arith, ◌∙◌}
use Rattle.drr.specs.State.{line_in}
use Rattle.engine.proofs.Rows.{oldest_at}
use Rattle.engine.proofs.Loop.{Ends, starts_shut, stops_short, stops_empty, ready}
use Rattle.engine.proofs.pick_in.Goals as goal
use Rattle.engine.proofs.pick_in.Goals.{then-line, then-line-f-eq0, else-line-f-eq0+else-charge_of-line, else-line}

-- where step 1 sends nothing, the ways meet
ends : (c : goal.After-look-arg-1) → Ends c.args.table.now (line_in c.args.line.now) (line_in c.if-line.line)
ends c =
    elim c.if-line.branch [
      | then-line w ↦
          elim w.if-line-f-eq0.branch [
            | then-line-f-eq0 w' ↦ rw (w.line-is, w'.line-is) (stops_empty _ _ c.requires w.if-line.true w'.if-line-f-eq0.true)
            | else-line-f-eq0+else-charge_of-line w' ↦
                rw (w.line-is, w'.line-is) (stops_short _ _ c.requires w.if-line.true (omega (arith, w'.if-line-f-eq0.false))
                (rw (oldest_at c.args.table.now c.args.line.now c.args.line.now.place, ← w'.charge_of.ensures) w'.if-charge_of-line.false))
          ]
      | else-line w ↦ rw w.line-is (starts_shut _ _ c.requires w.if-line.false)
    ]

pub returns : goal.returns
returns c = c.look.ensures ∙ (ends c.before).same

pub send-requires : goal.send-requires
send-requires c =
    ready c.args.table.now (line_in c.args.line.now) c.requires c.if-line.true (omega (arith, c.if-line-f-eq0.false))
    (rw (oldest_at c.args.table.now c.args.line.now c.args.line.now.place, ← c.charge_of.ensures) c.if-charge_of-line.true)

pub look-requires-clause-sound : goal.look-requires-clause-sound
look-requires-clause-sound c = (ends c).sound
