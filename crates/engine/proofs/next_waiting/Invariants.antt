-- What is left of the search finds what the whole finds.
use Rattle.std.proofs.Common.{◌≡◌, ◌-◌, ◌<◌}
use Rattle.drr.specs.Limits.{most_flows}
use Rattle.drr.specs.Pick.{first_of}
use Rattle.engine.proofs.next_waiting.Given as goal

abbrev pub invariant-loop : goal.invariant-loop
invariant-loop l = (l.f < most_flows) × (first_of l.n l.counts l.n l.place ≡ first_of l.n l.counts (l.n - l.counter) l.f)
