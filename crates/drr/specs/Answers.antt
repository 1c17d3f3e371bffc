-- What document 01 gives as the answer of a call: for each case of an answer its refusal number and its other numbers.
use Rattle.std.specs.Prelude.{ℕ, Bool, true, false, cond, List, [], ◌∷◌, get_or, Result, Ok, Err}
use Rattle.drr.specs.declared.State.{State}
use Rattle.drr.specs.declared.Refusal.{Refusal}
use Rattle.drr.specs.declared.Refusal.TheVariants.{UnknownFlow, NoLength, OverMaximum, RowFull}
use Rattle.drr.specs.declared.Refusal.TheVariants.{FlowCount, QuantumRange, MaximumRange, NotSound}
use Rattle.drr.specs.declared.Refusal.TheVariants.{FileLength, OverheadRange, EventCount, TablePlace, TickOrder, ListShort}
use Rattle.drr.specs.declared.PickAnswer.{PickAnswer}
use Rattle.drr.specs.declared.PickAnswer.TheVariants as picks
use Rattle.drr.specs.declared.Refused.{Refused}
use Rattle.drr.specs.State.{Line, state_from}
use Rattle.drr.specs.Sound.{sound_state}

-- "Refusal numbers"
abbrev pub number_of : Refusal → ℕ
number_of UnknownFlow = 1
number_of NoLength = 2
number_of OverMaximum = 3
number_of RowFull = 4
number_of FlowCount = 5
number_of QuantumRange = 6
number_of MaximumRange = 7
number_of NotSound = 8
number_of FileLength = 9
number_of OverheadRange = 10
number_of EventCount = 11
number_of TablePlace = 12
number_of TickOrder = 13
number_of ListShort = 14

-- an answer: its refusal number, 0 where nothing is refused, whether it tells of a packet sent, and its other numbers in the
-- document's order
pub record Answer : Type 0 where
  pub refusal : ℕ
  pub sends : Bool
  pub numbers : List ℕ

-- an answer that tells of no packet sent
abbrev pub answer : ℕ → List ℕ → Answer
answer refusal numbers = record { refusal = refusal; sends = false; numbers = numbers }

-- "A pick answers either idle, or sent with flow, length, deficit after it and the number of visits opened in this pick."
abbrev pub idle : Answer
idle = answer 0 []

abbrev pub sent_as : ℕ → ℕ → ℕ → ℕ → Answer
sent_as flow length deficit visits = record { refusal = 0; sends = true; numbers = flow ∷ length ∷ deficit ∷ visits ∷ [] }

-- the flow and the length of a packet sent, and the visits opened for it
abbrev pub flow_in : Answer → ℕ
flow_in a = get_or a.numbers 0 0

abbrev pub length_in : Answer → ℕ
length_in a = get_or a.numbers 1 0

abbrev pub visits_in : Answer → ℕ
visits_in a = get_or a.numbers 3 0

-- "Beside a refusal every other number of the answer, state and place apart, is 0."
abbrev pub pick_refused : ℕ → Answer
pick_refused number = answer number (0 ∷ 0 ∷ 0 ∷ 0 ∷ [])

abbrev pub pick_paper : PickAnswer → Answer
pick_paper picks.Idle = idle
pick_paper (picks.Sent flow length deficit visits) = sent_as flow length deficit visits
pick_paper (picks.Refused why) = pick_refused (number_of why)

-- an arrival answers no number but a refusal's
abbrev pub accepted : Answer
accepted = answer 0 []

abbrev pub arrival_refused : ℕ → Answer
arrival_refused number = answer number []

abbrev pub arrival_paper : Result (Unit {0}) Refusal → Answer
arrival_paper (Ok done) = accepted
arrival_paper (Err why) = arrival_refused (number_of why)

-- "The place is the number, from 0, of the record at fault where a refusal is given record by record .. else 0"
abbrev pub fine : Answer
fine = answer 0 (0 ∷ [])

abbrev pub refused_at : ℕ → ℕ → Answer
refused_at number place = answer number (place ∷ [])

abbrev pub verdict_paper : {A : Type 0} → Result A Refused → Answer
verdict_paper (Ok made) = fine
verdict_paper (Err fault) = refused_at (number_of fault.why) fault.place

-- an answer beside the line after the call
pub record Outcome : Type 0 where
  pub answer : Answer
  pub line : Line

abbrev pub outcome : Answer → Line → Outcome
outcome a l = record { answer = a; line = l }

-- an answer beside the state after the call
pub record Reply : Type 0 where
  pub answer : Answer
  pub state : State

abbrev pub reply : Answer → State → Reply
reply a s = record { answer = a; state = s }

-- a call on a state: refused by 8 where it is not sound, and handed back as it came; else the outcome's answer, and the state with
-- its line
unfoldable pub guarded : State → Answer → Outcome → Reply
guarded s unsound o = cond (sound_state s) (reply o.answer (state_from s.table o.line)) (reply unsound s)
