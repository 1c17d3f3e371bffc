-- The run of the list of events goes on from here as it does from the start: `Inside` says where it is.
use Rattle.drr.specs.State.{line_in}
use Rattle.runfile.specs.File.{events_from}
use Rattle.runfile.specs.Listing.{events_listing, events_waiting}
use Rattle.runfile.proofs.Going.{Inside, ahead_of}
use Rattle.runfile.proofs.turns.run_events.Given as goal

abbrev pub invariant-loop-e : goal.invariant-loop-e
invariant-loop-e l =
    let es = events_from l.t 0 l.m in
    Inside l.table l.t l.m l.fn.out (events_listing l.table es) l.fn.beside (events_waiting l.table es) l.now l.at l.y (line_in l.line) l.out l.beside

abbrev pub decreases-loop-e : goal.decreases-loop-e
decreases-loop-e l = ahead_of l.t l.m l.now l.at (line_in l.line)
