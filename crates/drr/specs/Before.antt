-- Document 01's setup, soundness, pick and figures without an overhead, "for document 01 charges the frame alone": where a definition
-- speaks of a charge, here it is the length; the count of visits, which on a sound line never matters, is the one in force. With an
-- overhead of 0 they are those in force (proofs/Before.antt), and no other definition stands on these.
use Rattle.std.specs.Prelude.{Bool, true, false, cond, not, ◌&&◌, ◌||◌, List, ℕ, zero, suc, ◌+◌, ◌*◌, ◌-◌, ltb, leb, eqb, length, Option, Some, None}
use Rattle.drr.specs.declared.FlowRecord.{FlowRecord}
use Rattle.drr.specs.declared.Table.{Table}
use Rattle.drr.specs.Limits.{most_flows, most_waiting}
use Rattle.drr.specs.State.{Line, quantum_of, maximum_of, deficit_of, waiting_of, sum_of, row_of, oldest, with_deficit, with_row, shifted_of}
use Rattle.drr.specs.Sound.{all, numbersb, visited, cellsb, sumb}
use Rattle.drr.specs.Answers.{Answer, refused_at, idle, sent_as, Outcome, outcome}
use Rattle.drr.specs.Pick.{next, open_at, closed, emptied}
use Rattle.drr.specs.Computed.{enough}
use Rattle.drr.specs.Setup.{flows_answer}
use Rattle.drr.specs.Figures.{total, all_quanta, least_from}

-- ---- setup
unfoldable pub setup_answer : List FlowRecord → Answer
setup_answer xs = cond (eqb (length xs) 0 || ltb most_flows (length xs)) (refused_at 5 0) (flows_answer 0 xs)

-- ---- soundness
-- "n is 0 to 16; place is below n, or 0 and closed if n is 0"
abbrev pub headb : ℕ → ℕ → Bool → Bool
headb n place opened = leb n most_flows && (ltb place n || (eqb n 0 && eqb place 0 && not opened))

-- "otherwise a deficit below its oldest length"
unfoldable pub flowb : Table → Line → ℕ → Bool
flowb T l f =
    numbersb (ltb f T.n) (visited l f) (quantum_of T f) (maximum_of T f) (deficit_of l f) (waiting_of l f) (oldest l f)
    && all most_waiting (cellsb T l f) && sumb l f

unfoldable pub soundb : Table → Line → Bool
soundb T l = headb T.n l.place l.opened && all most_flows (flowb T l)

-- ---- the pick
-- "Sending takes the oldest length off the row and subtracts it from the deficit. The visit stays open."
abbrev pub sent : Line → ℕ → Line
sent l f =
    with_row (with_deficit l f (deficit_of l f - oldest l f)) f (waiting_of l f - 1) (sum_of l f - oldest l f) (shifted_of (row_of l f))

abbrev pub sending : Line → ℕ → ℕ → Outcome
sending l f v = outcome (sent_as f (oldest l f) (deficit_of (sent l f) f) v) (sent l f)

-- "If its oldest length is at most the deficit, send it. Otherwise close the visit, keep the deficit, and go to 2."
abbrev pub serve : Bool → ℕ → Line → ℕ → (Line → Outcome) → Outcome
serve true v l f goto2 = sending l f v
serve false v l f goto2 = goto2 (closed l)

abbrev pub turn : Table → ℕ → Line → Option ℕ → (Line → Outcome) → Outcome
turn T v l None goto2 = outcome idle l
turn T v l (Some f) goto2 = serve (leb (oldest l f) (deficit_of (open_at T l f) f)) (v + 1) (open_at T l f) f goto2

unfoldable pub look_for : Table → ℕ → ℕ → Line → Outcome
look_for T zero v l = outcome idle l
look_for T (suc k) v l = turn T v l (next T l) (look_for T k (v + 1))

-- "If a visit is open: where the flow has a packet waiting and its oldest length is at most the deficit, send it."
abbrev pub carry_on : Table → Bool → Line → Outcome
carry_on T true l = sending l l.place 0
carry_on T false l = look_for T enough 0 (closed (emptied l))

abbrev pub readyb : Line → ℕ → Bool
readyb l f = ltb 0 (waiting_of l f) && leb (oldest l f) (deficit_of l f)

abbrev pub pick_at : Table → Bool → Line → Outcome
pick_at T true l = carry_on T (readyb l l.place) l
pick_at T false l = look_for T enough 0 l

abbrev pub pick_of : Table → Line → Outcome
pick_of T l = pick_at T l.opened l

-- ---- the figures
-- "L the sum of all maxima. For flow i, C = Q × (L - l) + (F - Q) × (Q + l)"
abbrev pub all_maxima : Table → ℕ
all_maxima T = total T.n (maximum_of T)

abbrev pub lag : Table → ℕ → ℕ
lag T i =
    quantum_of T i * (all_maxima T - maximum_of T i) + (all_quanta T - quantum_of T i) * (quantum_of T i + maximum_of T i)

-- "the least whole number that is not negative and, multiplied by F, is at least Q × S - C"
abbrev pub reachesb : Table → ℕ → ℕ → ℕ → Bool
reachesb T i S x = leb (quantum_of T i * S - lag T i) (all_quanta T * x)

unfoldable pub owed : Table → ℕ → ℕ → ℕ
owed T i S = least_from (reachesb T i S) 0 (quantum_of T i * S)

-- "the least S at which owed is 1 or more"
unfoldable pub wait : Table → ℕ → ℕ
wait T i = least_from (λ S. leb 1 (owed T i S)) 0 (lag T i + 1)
