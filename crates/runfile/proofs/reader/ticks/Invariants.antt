-- What is left of the events answers what the whole does.
use Rattle.std.proofs.Common.{◌≡◌, ◌-◌}
use Rattle.runfile.specs.File.{events_from, ticks_answer}
use Rattle.runfile.proofs.reader.ticks.Given as goal

abbrev pub invariant-loop-place : goal.invariant-loop-place
invariant-loop-place l = ticks_answer 0 0 (events_from l.t 0 l.m) ≡ ticks_answer l.place l.last (events_from l.t l.place (l.m - l.place))
