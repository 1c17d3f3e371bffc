use Rattle.textform.specs.Made.{each}
use Rattle.textform.specs.Shown.{flow_text, flows_of, flow_line_room}
use Rattle.textform.proofs.Records.{Printing, flow_of_pair}
use Rattle.textform.proofs.show.put_flows.Given as goal

abbrev pub invariant-loop-quantum : goal.invariant-loop-quantum
invariant-loop-quantum l =
    Printing (goal.iterator-loop-quantum).next_gives (λ p. (p.0.now, p.1.now)) (λ p. flow_text (flow_of_pair p)) flow_line_room
    l.quantum-iterator l.initial.buf (each flow_text (flows_of l.fn.table)) l.buf l.at
