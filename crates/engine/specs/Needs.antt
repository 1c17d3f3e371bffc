-- What inner functions ask of what they are lent.
use Rattle.std.specs.Prelude.{ℕ, ◌≤◌, ◌<◌}
use Rattle.drr.specs.declared.Table.{Table}
use Rattle.drr.specs.Limits.{most_flows, most_maximum, most_overhead, most_bytes}
use Rattle.drr.specs.State.{Line, maximum_of, deficit_of, waiting_of, sum_of, oldest, oldest_charge}

-- of what is booked into: its maxima fit a cell, and its sums have room for one length more
pub record Bookable (T : Table) (l : Line) : Type 0 where
  pub flows_few : T.n ≤ most_flows
  pub maxima_most : (f : ℕ) → f < T.n → maximum_of T f ≤ most_maximum
  pub sums_most : (f : ℕ) → f < T.n → sum_of l f ≤ most_bytes

-- of a flow that sends: a packet waits, its charge is at most the deficit, and the sum has its length
pub record Sendable (T : Table) (l : Line) (f : ℕ) : Type 0 where
  pub overhead : T.overhead ≤ most_overhead
  pub flow : f < most_flows
  pub waits : 0 < waiting_of l f
  pub enough : oldest_charge T l f ≤ deficit_of l f
  pub held : oldest l f ≤ sum_of l f
