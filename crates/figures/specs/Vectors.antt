-- Document 01's P1 to P12, "Marked P, to be proved", as one table, E2's two figures as another, and what it is that an entry holds.
use Rattle.std.specs.Prelude.{◌≡◌, List, [], ◌∷◌, ℕ}
use Rattle.drr.specs.declared.FlowRecord.{FlowRecord}
use Rattle.drr.specs.declared.Table.{Table}
use Rattle.drr.specs.declared.Terms.{Terms}
use Rattle.drr.specs.State.{fresh_state}
use Rattle.drr.specs.Answers.{idle, reply}
use Rattle.drr.specs.Computed.{pick_reply}
use Rattle.drr.specs.Setup.{table_for}
use Rattle.drr.specs.Figures.{lag, owed, wait}

-- ---- the tables, as setup makes them
abbrev pub flow : ℕ → ℕ → FlowRecord
flow quantum maximum = record { quantum = quantum; maximum = maximum }

-- "Flows: 0 has Q 500, l 800; 1 has 300, 800; 2 has 400, 600."
abbrev pub worked : List FlowRecord
worked = flow 500 800 ∷ flow 300 800 ∷ flow 400 600 ∷ []

abbrev pub alone : List FlowRecord
alone = flow 500 800 ∷ []

abbrev pub twins : List FlowRecord
twins = flow 1500 1500 ∷ flow 1500 1500 ∷ []

-- ---- a vector
-- which figure of a flow
pub data Which : Type 0 where
  its_c : Which
  its_wait : Which
  its_owed : ℕ → Which

abbrev pub figure_of : Table → ℕ → Which → ℕ
figure_of T i its_c = lag T i
figure_of T i its_wait = wait T i
figure_of T i (its_owed S) = owed T i S

-- a figure of a flow and its value; two such; or a pick from the fresh state
pub data Vector : Type 0 where
  figure : List FlowRecord → ℕ → Which → ℕ → Vector
  both : Vector → Vector → Vector
  fresh_pick : List FlowRecord → Vector

-- it holds of the tables with these terms
abbrev pub Holds : Terms → Vector → Type 0
Holds terms (figure flows i which value) = figure_of (table_for flows terms) i which ≡ value
Holds terms (both a b) = Holds terms a × Holds terms b
Holds terms (fresh_pick flows) = pick_reply (fresh_state (table_for flows terms)) ≡ reply idle (fresh_state (table_for flows terms))

abbrev pub Every : Terms → List Vector → Type 0
Every terms [] = Unit {0}
Every terms (x ∷ xs) = Holds terms x × Every terms xs

-- ---- document 01's table, where the overhead is 0
abbrev pub marked : List Vector
marked =
    -- P1 to P3, this table's C
    figure worked 0 its_c 1610000
    ∷ figure worked 1 its_c 1410000
    ∷ figure worked 2 its_c 1440000
    -- P4 to P6, its waits
    ∷ figure worked 0 its_wait 3221
    ∷ figure worked 1 its_wait 4701
    ∷ figure worked 2 its_wait 3601
    -- P7 to P9, what its flow 0 is owed
    ∷ figure worked 0 (its_owed 3220) 0
    ∷ figure worked 0 (its_owed 3221) 1
    ∷ figure worked 0 (its_owed 10000) 2825
    -- P10, one flow: owed(7) is 7, wait 1
    ∷ both (figure alone 0 (its_owed 7) 7) (figure alone 0 its_wait 1)
    -- P11, two flows of 1500, 1500: each waits
    ∷ both (figure twins 0 its_wait 4501) (figure twins 1 its_wait 4501)
    -- P12, a pick from the fresh empty-queued state: idle, same state
    ∷ fresh_pick worked
    ∷ []

-- ---- E2's: "With 20, document 01's flow 0 has a C of 1,644,000 and waits 3289."
abbrev pub raised : List Vector
raised = figure worked 0 its_c 1644000 ∷ figure worked 0 its_wait 3289 ∷ []
