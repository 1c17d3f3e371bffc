-- Demand 3, the floor, as one statement: while a flow has packets waiting, the least it receives out of the bytes on the line.
use Rattle.std.specs.Prelude.{cond, ◌&&◌, List, [], ◌∷◌, ℕ, ◌+◌, ◌≤◌, ◌<◌, eqb}
use Rattle.drr.specs.declared.State.{State}
use Rattle.drr.specs.declared.Table.{Table}
use Rattle.drr.specs.State.{Line, waiting_of, charge, line_in}
use Rattle.drr.specs.Facts.{SoundState}
use Rattle.drr.specs.Answers.{Answer, flow_in, length_in, Outcome, Reply}
use Rattle.drr.specs.Arrival.{arrival_of, arrival_reply}
use Rattle.drr.specs.Computed.{pick_of, pick_reply}
use Rattle.drr.specs.Figures.{owed}

-- "any calls of arrival and pick": an arrival with any flow and any length, or a pick
pub data Call : Type 0 where
  arrives : ℕ → ℕ → Call
  picks : Call

-- what a call answers and leaves, refused or not, by the definitions of arrival and pick
abbrev pub reply_to : State → Call → Reply
reply_to s (arrives flow length) = arrival_reply s flow length
reply_to s picks = pick_reply s

-- the state after the calls
abbrev pub after_calls : State → List Call → State
after_calls s [] = s
after_calls s (c ∷ cs) = after_calls (reply_to s c).state cs

-- what the calls answer
abbrev pub answers_to : State → List Call → List Answer
answers_to s [] = []
answers_to s (c ∷ cs) = (reply_to s c).answer ∷ answers_to (reply_to s c).state cs

-- the same calls on a sound line
abbrev pub call_of : Table → Line → Call → Outcome
call_of T l (arrives flow length) = arrival_of T l flow length
call_of T l picks = pick_of T l

abbrev pub line_after : Table → Line → List Call → Line
line_after T l [] = l
line_after T l (c ∷ cs) = line_after T (call_of T l c).line cs

-- the bytes on the line, which are charges, of the packet that an answer says was sent to flow i; a refused pick is no sending, and
-- its zeros count for nothing
abbrev pub sent_in : Table → Answer → ℕ → ℕ
sent_in T a i = cond (a.sends && eqb (flow_in a) i) (charge T (length_in a)) 0

-- .. and its length
abbrev pub given_in : Answer → ℕ → List ℕ
given_in a i = cond (a.sends && eqb (flow_in a) i) (length_in a ∷ []) []

-- the length that an arrival's answer says was accepted for flow i
abbrev pub added_to : ℕ → ℕ → ℕ → ℕ → List ℕ
added_to refusal flow length i = cond (eqb refusal 0 && eqb flow i) (length ∷ []) []

-- the bytes on the line of a packet sent, whatever its flow
abbrev pub bytes_in : Table → Answer → ℕ
bytes_in T a = cond a.sends (charge T (length_in a)) 0

-- "if the picks sent S bytes in all", E2: "S .. [speaks] of charges"
abbrev pub bytes_sent : State → List Call → ℕ
bytes_sent s [] = 0
bytes_sent s (c ∷ cs) = bytes_in s.table (reply_to s c).answer + bytes_sent (reply_to s c).state cs

-- "that flow was sent", E2: "what demand 3 says a flow was sent" too
abbrev pub flow_sent : State → List Call → ℕ → ℕ
flow_sent s [] i = 0
flow_sent s (c ∷ cs) i = sent_in s.table (reply_to s c).answer i + flow_sent (reply_to s c).state cs i

abbrev pub Waits : State → ℕ → Type 0
Waits s i = 0 < waiting_of (line_in s.line) i

-- "a flow has a packet waiting at the start of every pick"
abbrev pub WaitsAtPicks : State → List Call → ℕ → Type 0
WaitsAtPicks s [] i = Unit {0}
WaitsAtPicks s (arrives flow length ∷ cs) i = WaitsAtPicks (reply_to s (arrives flow length)).state cs i
WaitsAtPicks s (picks ∷ cs) i = Waits s i × WaitsAtPicks (reply_to s picks).state cs i

-- "From any sound state, any calls of arrival and pick, refused ones among them: in any stretch of these calls where a flow has a
-- packet waiting at the start of every pick, if the picks sent S bytes in all, that flow was sent at least owed(S). For each flow,
-- each stretch, each S, with no upper limit on S."
abbrev pub Floor : Type 0
Floor =
    (s : State) → SoundState s → (before stretch : List Call) (i : ℕ) → i < s.table.n →
    WaitsAtPicks (after_calls s before) stretch i →
    owed s.table i (bytes_sent (after_calls s before) stretch) ≤ flow_sent (after_calls s before) stretch i
