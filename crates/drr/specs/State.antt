-- "The table and its state": what a state holds, how it is read and written, and the fresh and the empty state.
use Rattle.std.specs.Prelude.{Bool, false, List, [], ◌∷◌, ◌++◌, map, ℕ, ◌+◌, ◌-◌, get_or, set, take, drop, replicate}
use Rattle.drr.specs.declared.Common.{Common}
use Rattle.drr.specs.declared.Table.{Table}
use Rattle.drr.specs.declared.Row.{Row}
use Rattle.drr.specs.declared.Line.{Line as StoredLine}
use Rattle.drr.specs.declared.State.{State}

-- "The state holds n, quanta, maxima", E2: "The table gets an overhead per packet": the table, which setup fixes. Its numbers that are
-- no flow's own go in one record.
abbrev pub common : ℕ → ℕ → Common
common n overhead = record { n = n; overhead = overhead }

abbrev pub common_in : Table → Common
common_in T = common T.n T.overhead

abbrev pub table_of : Common → List ℕ → List ℕ → Table
table_of c quanta maxima = record { n = c.n; overhead = c.overhead; quanta = quanta; maxima = maxima }

-- "one deficit and one waiting count per flow, the place (flow visited last), whether its visit is open, and the waiting lengths as
-- sixteen rows of thirty-two, oldest first"; E1: "Keep each flow's sum in the state". The line, which calls move
pub record Line : Type 0 where
  pub deficits : List ℕ
  pub counts : List ℕ
  pub sums : List ℕ
  pub rows : List (List ℕ)
  pub place : ℕ
  pub opened : Bool

-- ---- reading: flow f's numbers
abbrev pub quantum_of : Table → ℕ → ℕ
quantum_of T f = get_or T.quanta f 0

abbrev pub maximum_of : Table → ℕ → ℕ
maximum_of T f = get_or T.maxima f 0

abbrev pub deficit_of : Line → ℕ → ℕ
deficit_of l f = get_or l.deficits f 0

abbrev pub waiting_of : Line → ℕ → ℕ
waiting_of l f = get_or l.counts f 0

abbrev pub row_of : Line → ℕ → List ℕ
row_of l f = get_or l.rows f []

-- the oldest length that waits in flow f
abbrev pub oldest : Line → ℕ → ℕ
oldest l f = get_or (row_of l f) 0 0

-- the lengths that wait in flow f, oldest first
abbrev pub lengths_in : Line → ℕ → List ℕ
lengths_in l f = take (waiting_of l f) (row_of l f)

-- the sum that the state keeps for flow f
abbrev pub sum_of : Line → ℕ → ℕ
sum_of l f = get_or l.sums f 0

-- the bytes of packets of these lengths
abbrev pub bytes_of : List ℕ → ℕ
bytes_of [] = 0
bytes_of (length ∷ more) = length + bytes_of more

-- "how many bytes wait in a flow": the sum of the lengths that wait in flow f
abbrev pub bytes_waiting : Line → ℕ → ℕ
bytes_waiting l f = bytes_of (lengths_in l f)

-- E2: "charge becomes length plus overhead"
abbrev pub charge : Table → ℕ → ℕ
charge T length = length + T.overhead

-- what flow f's oldest packet is charged
abbrev pub oldest_charge : Table → Line → ℕ → ℕ
oldest_charge T l f = charge T (oldest l f)

-- the most that a packet of flow f is charged: "each l raised by the overhead"
abbrev pub maximum_charge : Table → ℕ → ℕ
maximum_charge T f = charge T (maximum_of T f)

-- ---- writing: every change of a line is made of these three
abbrev pub with_deficit : Line → ℕ → ℕ → Line
with_deficit l f d =
    record { deficits = set l.deficits f d; counts = l.counts; sums = l.sums; rows = l.rows; place = l.place; opened = l.opened }

abbrev pub with_row : Line → ℕ → ℕ → ℕ → List ℕ → Line
with_row l f count sum lengths =
    record {
      deficits = l.deficits;
      counts = set l.counts f count;
      sums = set l.sums f sum;
      rows = set l.rows f lengths;
      place = l.place;
      opened = l.opened;
    }

abbrev pub with_visit : Line → ℕ → Bool → Line
with_visit l f opened =
    record { deficits = l.deficits; counts = l.counts; sums = l.sums; rows = l.rows; place = f; opened = opened }

-- a row without its oldest length; "unused cells .. are zero", so the freed one is
abbrev pub shifted_of : List ℕ → List ℕ
shifted_of lengths = drop 1 lengths ++ 0 ∷ []

-- ---- "Fresh: nothing waits, deficits 0, no visit open, place n-1."
abbrev pub fresh_line : ℕ → Line
fresh_line n =
    record {
      deficits = replicate 16 0;
      counts = replicate 16 0;
      sums = replicate 16 0;
      rows = replicate 16 (replicate 32 0);
      place = n - 1;
      opened = false;
    }

abbrev pub no_flows : Table
no_flows = table_of (common 0 0) (replicate 16 0) (replicate 16 0)

-- ---- the State of the code: its sixteen row structs as a list of lists, and back
abbrev pub lengths_of : Row → List ℕ
lengths_of r = r.lengths

abbrev pub row_from : List ℕ → Row
row_from lengths = record { lengths = lengths }

abbrev pub cells_in : List Row → List (List ℕ)
cells_in rows = map lengths_of rows

abbrev pub rows_from : List (List ℕ) → List Row
rows_from cells = map row_from cells

abbrev pub line_in : StoredLine → Line
line_in s =
    record { deficits = s.deficits; counts = s.counts; sums = s.sums; rows = cells_in s.rows; place = s.place; opened = s.opened }

abbrev pub state_from : Table → Line → State
state_from T l = record {
  table = T;
  line = record {
    deficits = l.deficits;
    counts = l.counts;
    sums = l.sums;
    place = l.place;
    opened = l.opened;
    rows = rows_from l.rows;
  };
}

abbrev pub fresh_state : Table → State
fresh_state T = state_from T (fresh_line T.n)

-- "The empty table is n = 0 with everything zero and closed."
abbrev pub empty_table : State
empty_table = fresh_state no_flows
