-- "Arrival and pick": the arrival, with its refusals in the order 8, 1, 2, 3, 4.
use Rattle.std.specs.Prelude.{ℕ, ◌+◌, cond, ltb, leb, eqb, set}
use Rattle.drr.specs.declared.Table.{Table}
use Rattle.drr.specs.declared.State.{State}
use Rattle.drr.specs.Limits.{most_waiting}
use Rattle.drr.specs.State.{Line, maximum_of, waiting_of, sum_of, row_of, with_row, line_in}
use Rattle.drr.specs.Answers.{accepted, arrival_refused, Outcome, outcome, Reply, guarded}

-- "An accepted arrival puts the length at the end of its flow's row and changes nothing else" but E1's sum, which grows by it.
abbrev pub put : Line → ℕ → ℕ → Line
put l f length = with_row l f (waiting_of l f + 1) (sum_of l f + length) (set (row_of l f) (waiting_of l f) length)

-- on a sound line: 1, 2, 3, 4, else accepted; "refusal 4 is given only with 32 waiting"
unfoldable pub arrival_of : Table → Line → ℕ → ℕ → Outcome
arrival_of T l f length =
    cond (leb T.n f) (outcome (arrival_refused 1) l)
    (cond (eqb length 0) (outcome (arrival_refused 2) l)
    (cond (ltb (maximum_of T f) length) (outcome (arrival_refused 3) l)
    (cond (leb most_waiting (waiting_of l f)) (outcome (arrival_refused 4) l)
    (outcome accepted (put l f length)))))

-- the public arrival, of any state and any numbers
abbrev pub arrival_reply : State → ℕ → ℕ → Reply
arrival_reply s f length = guarded s (arrival_refused 8) (arrival_of s.table (line_in s.line) f length)
