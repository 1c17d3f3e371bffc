-- E1's account: "Over any calls from fresh, bytes accepted equal bytes sent plus bytes waiting, the first two counted from the calls."
use Rattle.std.specs.Prelude.{◌≡◌, Bool, true, cond, ◌&&◌, List, [], ◌∷◌, ℕ, ◌+◌, ◌<◌, eqb}
use Rattle.drr.specs.declared.State.{State}
use Rattle.drr.specs.declared.FlowRecord.{FlowRecord}
use Rattle.drr.specs.declared.Terms.{Terms}
use Rattle.drr.specs.State.{bytes_waiting, line_in}
use Rattle.drr.specs.Facts.{SoundState}
use Rattle.drr.specs.Answers.{Answer, flow_in, length_in}
use Rattle.drr.specs.Setup.{setup_reply}
use Rattle.drr.specs.Figures.{total}
use Rattle.drr.specs.Floor.{Call, arrives, picks, after_calls, answers_to}

-- the flows that an account is about: flow i, or all
abbrev pub just_flow : ℕ → ℕ → Bool
just_flow i f = eqb f i

abbrev pub any_flow : ℕ → Bool
any_flow f = true

-- "bytes accepted": the length of an arrival for one of these flows, where its answer refuses nothing
abbrev pub accepted_in : (ℕ → Bool) → Call → Answer → ℕ
accepted_in these (arrives flow length) a = cond (eqb a.refusal 0 && these flow) length 0
accepted_in these picks a = 0

abbrev pub bytes_accepted : (ℕ → Bool) → List Call → List Answer → ℕ
bytes_accepted these [] answers = 0
bytes_accepted these (c ∷ cs) [] = 0
bytes_accepted these (c ∷ cs) (a ∷ answers) = accepted_in these c a + bytes_accepted these cs answers

-- "bytes sent", in lengths (the floor's `bytes_sent` counts charges): the length that an answer tells as sent to one of these flows
abbrev pub length_to : (ℕ → Bool) → Answer → ℕ
length_to these a = cond (a.sends && these (flow_in a)) (length_in a) 0

abbrev pub bytes_given : (ℕ → Bool) → List Answer → ℕ
bytes_given these [] = 0
bytes_given these (a ∷ answers) = length_to these a + bytes_given these answers

-- "bytes waiting", in flow i and in all flows
abbrev pub bytes_waiting_in : ℕ → State → ℕ
bytes_waiting_in i s = bytes_waiting (line_in s.line) i

abbrev pub all_bytes_waiting : State → ℕ
all_bytes_waiting s = total s.table.n (λ i. bytes_waiting_in i s)

-- over the calls, what waited before and what was accepted is what was sent and what waits after
abbrev pub Balanced : (ℕ → Bool) → (State → ℕ) → State → List Call → Type 0
Balanced these waiting s cs =
    waiting s + bytes_accepted these cs (answers_to s cs) ≡ bytes_given these (answers_to s cs) + waiting (after_calls s cs)

-- from any sound state, for each flow
abbrev pub Account : Type 0
Account = (s : State) → SoundState s → (cs : List Call) (i : ℕ) → i < s.table.n → Balanced (just_flow i) (bytes_waiting_in i) s cs

-- .. and for all flows together
abbrev pub AccountOfAll : Type 0
AccountOfAll = (s : State) → SoundState s → (cs : List Call) → Balanced any_flow all_bytes_waiting s cs

-- "bytes accepted equal bytes sent plus bytes waiting"
abbrev pub Even : (ℕ → Bool) → (State → ℕ) → State → List Call → Type 0
Even these waiting s cs =
    bytes_accepted these cs (answers_to s cs) ≡ bytes_given these (answers_to s cs) + waiting (after_calls s cs)

-- "Over any calls from fresh", of a setup that is accepted: for each flow
abbrev pub FreshAccount : Type 0
FreshAccount =
    (xs : List FlowRecord) (terms : Terms) → (setup_reply xs terms).answer.refusal ≡ 0 →
    (cs : List Call) (i : ℕ) → i < (setup_reply xs terms).state.table.n →
    Even (just_flow i) (bytes_waiting_in i) (setup_reply xs terms).state cs

-- .. and for all flows together
abbrev pub FreshAccountOfAll : Type 0
FreshAccountOfAll =
    (xs : List FlowRecord) (terms : Terms) → (setup_reply xs terms).answer.refusal ≡ 0 →
    (cs : List Call) → Even any_flow all_bytes_waiting (setup_reply xs terms).state cs
