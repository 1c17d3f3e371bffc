-- From the line at entry to the line between two visits, whose place stands in a local, the answer stays the same; deficits grow at each
-- visit.
use Rattle.std.proofs.Common.{◌≡◌, ◌-◌, false}
use Rattle.drr.specs.Limits.{most_charges}
use Rattle.drr.specs.State.{line_in}
use Rattle.drr.proofs.Sums.{over_flows}
use Rattle.engine.proofs.Loop.{Along, shut}
use Rattle.engine.proofs.look.Given as goal

abbrev pub invariant-loop-f : goal.invariant-loop-f
invariant-loop-f l = Along l.table (line_in l.fn.line) (shut (line_in l.line) l.place) l.visits × (l.line.opened ≡ false)

abbrev pub decreases-loop-f : goal.decreases-loop-f
decreases-loop-f l = most_charges - over_flows l.line.deficits
