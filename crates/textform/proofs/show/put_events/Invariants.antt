use Rattle.runfile.specs.File.{event_at, events_from}
use Rattle.textform.specs.Made.{each}
use Rattle.textform.specs.Shown.{event_text, event_line_room}
use Rattle.textform.proofs.Records.{Printing}
use Rattle.textform.proofs.show.put_events.Given as goal

abbrev pub invariant-loop-event : goal.invariant-loop-event
invariant-loop-event l =
    Printing (goal.iterator-loop-event).next_gives (λ x. event_at x.now 0) event_text event_line_room
    l.event-iterator l.initial.buf (each event_text (events_from l.fn.t 0 l.fn.m)) l.buf l.at
