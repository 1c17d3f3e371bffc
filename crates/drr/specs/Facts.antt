-- A sound state as facts, which theorems use. A line that has the lengths that the code's types give is `Sound` exactly when `soundb`
-- is true of it (proofs/Facts.antt).
use Rattle.std.specs.Prelude.{ℕ, ◌≤◌, ◌<◌, ◌≡◌, List, Bool, true, false, ◌⊎◌, length, get_or, take}
use Rattle.drr.specs.declared.Table.{Table}
use Rattle.drr.specs.declared.State.{State}
use Rattle.drr.specs.Limits.{most_flows, least_quantum, most_quantum, least_maximum, most_maximum, most_overhead, most_waiting}
use Rattle.drr.specs.State.{Line, quantum_of, maximum_of, deficit_of, waiting_of, sum_of, row_of, lengths_in, bytes_of}
use Rattle.drr.specs.State.{charge, line_in}
use Rattle.drr.specs.Sound.{visited}

-- "a flow without an open visit has deficit 0 if empty, otherwise a deficit below its oldest length", E2: its oldest charge; "the flow
-- with the open visit has a deficit below its quantum"
pub record Credit (visited : Bool) (deficit quantum count oldest_charge : ℕ) : Type 0 where
  pub visited_below : visited ≡ true → deficit < quantum
  pub empty_zero : visited ≡ false → count ≡ 0 → deficit ≡ 0
  pub waiting_below : visited ≡ false → 0 < count → deficit < oldest_charge

-- "quanta, maxima, waiting counts .. are in range"
pub record InUse (quantum maximum count : ℕ) : Type 0 where
  pub quantum_least : least_quantum ≤ quantum
  pub quantum_most : quantum ≤ most_quantum
  pub maximum_least : least_maximum ≤ maximum
  pub maximum_most : maximum ≤ most_maximum
  pub count_most : count ≤ most_waiting

-- "unused parts are zero"
pub record Unused (quantum maximum deficit count : ℕ) : Type 0 where
  pub no_quantum : quantum ≡ 0
  pub no_maximum : maximum ≡ 0
  pub no_deficit : deficit ≡ 0
  pub no_count : count ≡ 0

-- flow f, by the numbers and the row that the line has of it
pub record FlowFacts (T : Table) (f : ℕ) (visited : Bool) (deficit count sum : ℕ) (lengths : List ℕ) : Type 0 where
  pub used : f < T.n → InUse (quantum_of T f) (maximum_of T f) count
  pub credit : f < T.n → Credit visited deficit (quantum_of T f) count (charge T (get_or lengths 0 0))
  pub unused : T.n ≤ f → Unused (quantum_of T f) (maximum_of T f) deficit count
  pub waiting : (k : ℕ) → k < most_waiting → k < count → (1 ≤ get_or lengths k 0) × (get_or lengths k 0 ≤ maximum_of T f)
  pub rest : (k : ℕ) → k < most_waiting → count ≤ k → get_or lengths k 0 ≡ 0
  -- E1: "a state where it is false is not sound"
  pub true_sum : sum ≡ bytes_of (take count lengths)

abbrev pub Flow : Table → Line → ℕ → Type 0
Flow T l f = FlowFacts T f (visited l f) (deficit_of l f) (waiting_of l f) (sum_of l f) (row_of l f)

-- a table within setup's limits
pub record Ranged (T : Table) : Type 0 where
  pub quanta_length : length T.quanta ≡ 16
  pub maxima_length : length T.maxima ≡ 16
  pub flows_few : T.n ≤ most_flows
  pub overhead_in_range : T.overhead ≤ most_overhead
  pub no_overhead : T.n ≡ 0 → T.overhead ≡ 0
  pub quantum_in : (f : ℕ) → f < T.n → (least_quantum ≤ quantum_of T f) × (quantum_of T f ≤ most_quantum)
  pub maximum_in : (f : ℕ) → f < T.n → (least_maximum ≤ maximum_of T f) × (maximum_of T f ≤ most_maximum)
  pub unused_zero : (f : ℕ) → T.n ≤ f → (quantum_of T f ≡ 0) × (maximum_of T f ≡ 0)

-- the lengths of the arrays, as the code's types give them to every state
pub record Shaped (T : Table) (l : Line) : Type 0 where
  pub quanta_length : length T.quanta ≡ 16
  pub maxima_length : length T.maxima ≡ 16
  pub deficits_length : length l.deficits ≡ 16
  pub counts_length : length l.counts ≡ 16
  pub sums_length : length l.sums ≡ 16
  pub rows_length : length l.rows ≡ 16
  pub row_length : (f : ℕ) → f < 16 → length (row_of l f) ≡ 32

pub record Sound (T : Table) (l : Line) : Type 0 where
  pub shape : Shaped T l
  pub flows_few : T.n ≤ most_flows
  pub overhead_in_range : T.overhead ≤ most_overhead
  pub placed : (l.place < T.n) ⊎ ((T.n ≡ 0) × (T.overhead ≡ 0) × (l.place ≡ 0) × (l.opened ≡ false))
  pub flows : (f : ℕ) → f < most_flows → Flow T l f

abbrev pub SoundState : State → Type 0
SoundState s = Sound s.table (line_in s.line)

abbrev pub ShapedState : State → Type 0
ShapedState s = Shaped s.table (line_in s.line)

-- ---- "so one meaning has one state": what two states say, unused cells and unused flows apart
pub record SameTable (T U : Table) : Type 0 where
  pub flows : T.n ≡ U.n
  pub overheads : T.overhead ≡ U.overhead
  pub quanta : (f : ℕ) → f < T.n → quantum_of T f ≡ quantum_of U f
  pub maxima : (f : ℕ) → f < T.n → maximum_of T f ≡ maximum_of U f

pub record SameMeaning (s t : State) : Type 0 where
  pub tables : SameTable s.table t.table
  pub deficits : (f : ℕ) → f < s.table.n → deficit_of (line_in s.line) f ≡ deficit_of (line_in t.line) f
  pub waiting : (f : ℕ) → f < s.table.n → lengths_in (line_in s.line) f ≡ lengths_in (line_in t.line) f
  pub places : s.line.place ≡ t.line.place
  pub visits : s.line.opened ≡ t.line.opened
