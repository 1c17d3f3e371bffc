-- "A state is sound when": the test, clause by clause. Facts.antt has the same as facts.
use Rattle.std.specs.Prelude.{ℕ, suc, zero, Bool, true, not, ◌&&◌, ◌||◌, ltb, leb, eqb, get_or}
use Rattle.drr.specs.declared.Table.{Table}
use Rattle.drr.specs.declared.State.{State}
use Rattle.drr.specs.Limits.{most_flows, least_quantum, most_quantum, least_maximum, most_maximum, most_overhead, most_waiting}
use Rattle.drr.specs.State.{Line, quantum_of, maximum_of, deficit_of, waiting_of, sum_of, row_of, bytes_waiting}
use Rattle.drr.specs.State.{oldest_charge, line_in}

-- the test p passes at each number below k
unfoldable pub all : ℕ → (ℕ → Bool) → Bool
all zero p = true
all (suc k) p = all k p && p k

-- x is least to most
abbrev pub withinb : ℕ → ℕ → ℕ → Bool
withinb least most x = leb least x && leb x most

-- "n is 0 to 16; place is below n, or 0 and closed if n is 0"; "any other stored number that setup limits", the overhead, is in range,
-- and 0 if n is 0: "The empty table is n = 0 with everything zero and closed"
abbrev pub headb : Table → Line → Bool
headb T l =
    leb T.n most_flows && leb T.overhead most_overhead
    && (ltb l.place T.n || (eqb T.n 0 && eqb T.overhead 0 && eqb l.place 0 && not l.opened))

-- "quanta, maxima, waiting counts .. are in range"
abbrev pub quantumb : ℕ → Bool
quantumb = withinb least_quantum most_quantum

abbrev pub maximumb : ℕ → Bool
maximumb = withinb least_maximum most_maximum

abbrev pub rangeb : ℕ → ℕ → ℕ → Bool
rangeb quantum maximum count = quantumb quantum && maximumb maximum && leb count most_waiting

-- "each waiting length is 1 to its flow's maximum"; "unused parts are zero"
abbrev pub cellb : ℕ → ℕ → ℕ → ℕ → Bool
cellb k count maximum length = (ltb k count && withinb 1 maximum length) || (not (ltb k count) && eqb length 0)

-- "a flow without an open visit has deficit 0 if empty, otherwise a deficit below its oldest length", E2: its oldest charge; "the flow
-- with the open visit has a deficit below its quantum"
abbrev pub creditb : Bool → ℕ → ℕ → ℕ → ℕ → Bool
creditb visited deficit quantum count oldest_charge =
    (visited && ltb deficit quantum)
    || (not visited && ((eqb count 0 && eqb deficit 0) || (not (eqb count 0) && ltb deficit oldest_charge)))

-- "unused parts are zero"
abbrev pub unusedb : ℕ → ℕ → ℕ → ℕ → Bool
unusedb quantum maximum deficit count = eqb quantum 0 && eqb maximum 0 && eqb deficit 0 && eqb count 0

-- the numbers of a flow that is in use, or not
abbrev pub numbersb : Bool → Bool → ℕ → ℕ → ℕ → ℕ → ℕ → Bool
numbersb used visited quantum maximum deficit count oldest_charge =
    (used && (rangeb quantum maximum count && creditb visited deficit quantum count oldest_charge))
    || (not used && unusedb quantum maximum deficit count)

-- whether the visit to flow f is open
abbrev pub visited : Line → ℕ → Bool
visited l f = l.opened && eqb l.place f

-- cell k of flow f
unfoldable pub cellsb : Table → Line → ℕ → ℕ → Bool
cellsb T l f k = cellb k (waiting_of l f) (maximum_of T f) (get_or (row_of l f) k 0)

-- E1: "each flow's sum .. a state where it is false is not sound"
abbrev pub sumb : Line → ℕ → Bool
sumb l f = eqb (sum_of l f) (bytes_waiting l f)

-- the credit of flow f, and its numbers
abbrev pub flow_creditb : Table → Line → ℕ → Bool
flow_creditb T l f = creditb (visited l f) (deficit_of l f) (quantum_of T f) (waiting_of l f) (oldest_charge T l f)

abbrev pub flow_numbersb : Table → Line → ℕ → Bool
flow_numbersb T l f =
    numbersb (ltb f T.n) (visited l f) (quantum_of T f) (maximum_of T f) (deficit_of l f) (waiting_of l f) (oldest_charge T l f)

unfoldable pub flowb : Table → Line → ℕ → Bool
flowb T l f =
    flow_numbersb T l f
    && all most_waiting (cellsb T l f) && sumb l f

unfoldable pub soundb : Table → Line → Bool
soundb T l = headb T l && all most_flows (flowb T l)

abbrev pub sound_state : State → Bool
sound_state s = soundb s.table (line_in s.line)
