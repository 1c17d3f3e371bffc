-- The lines of the first flows stand in the buffer, and those of the others are left.
use Rattle.std.proofs.Common.{◌*◌, ◌-◌, ◌≤◌}
use Rattle.text.proofs.Texts.{Left}
use Rattle.answers.specs.Printed.{flow_lines, row_room}
use Rattle.answers.proofs.sheet.Sheet.put_flows.Given as goal

abbrev pub invariant-loop-flow : goal.invariant-loop-flow
invariant-loop-flow l =
    (l.at ≤ row_room * l.flow)
    × Left l.fn.buf 0 (flow_lines l.self.state.table l.self.sizes.now l.self.dress.rate 0 l.self.state.table.n) l.buf l.at (flow_lines l.self.state.table l.self.sizes.now l.self.dress.rate l.flow (l.self.state.table.n - l.flow))
