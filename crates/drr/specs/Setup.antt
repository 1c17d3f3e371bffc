-- "Setup takes a lent list of flow records, each a quantum and a maximum, and makes a fresh state." E2: beside the list, in the terms,
-- it takes the overhead.
use Rattle.std.specs.Prelude.{ℕ, zero, suc, ◌+◌, cond, not, ◌||◌, List, [], ◌∷◌, ltb, eqb, length, take}
use Rattle.drr.specs.declared.FlowRecord.{FlowRecord}
use Rattle.drr.specs.declared.Table.{Table}
use Rattle.drr.specs.declared.FlowList.{FlowList}
use Rattle.drr.specs.declared.Terms.{Terms}
use Rattle.drr.specs.Limits.{most_flows, most_overhead}
use Rattle.drr.specs.State.{common, table_of, no_flows, fresh_state}
use Rattle.drr.specs.Sound.{quantumb, maximumb}
use Rattle.drr.specs.Answers.{Answer, fine, refused_at, Reply, reply}

-- what setup is told beside the list
abbrev pub terms_of : ℕ → Terms
terms_of overhead = record { overhead = overhead }

-- k cells: the number p of the first k records, and zeros after them
abbrev pub cells : (FlowRecord → ℕ) → ℕ → List FlowRecord → List ℕ
cells p zero xs = []
cells p (suc k) [] = 0 ∷ cells p k []
cells p (suc k) (x ∷ xs) = p x ∷ cells p k xs

abbrev pub table_for : List FlowRecord → Terms → Table
table_for xs terms =
    table_of (common (length xs) terms.overhead) (cells (λ r. r.quantum) 16 xs) (cells (λ r. r.maximum) 16 xs)

-- "flow by flow 6 before 7", from the flow f on
abbrev pub flows_answer : ℕ → List FlowRecord → Answer
flows_answer f [] = fine
flows_answer f (x ∷ xs) =
    cond (not (quantumb x.quantum)) (refused_at 6 f)
    (cond (not (maximumb x.maximum)) (refused_at 7 f)
    (flows_answer (f + 1) xs))

-- E2: "an overhead above 64, tested in setup before 5", then "flow list of 0 or more than 16"
unfoldable pub setup_answer : List FlowRecord → Terms → Answer
setup_answer xs terms =
    cond (ltb most_overhead terms.overhead) (refused_at 10 0)
    (cond (eqb (length xs) 0 || ltb most_flows (length xs)) (refused_at 5 0)
    (flows_answer 0 xs))

-- the table; a refusal "gives the empty table"
unfoldable pub setup_table : List FlowRecord → Terms → Table
setup_table xs terms = cond (eqb (setup_answer xs terms).refusal 0) (table_for xs terms) no_flows

-- "makes a fresh state"
abbrev pub setup_reply : List FlowRecord → Terms → Reply
setup_reply xs terms = reply (setup_answer xs terms) (fresh_state (setup_table xs terms))

-- the records of a list as it is carried
abbrev pub records_in : FlowList → List FlowRecord
records_in l = take l.count l.records
