-- What document 01 gives as the answer of a figure: its refusal number, and its value.
use Rattle.std.specs.Prelude.{ℕ, ◌+◌, cond, List, [], ◌∷◌, map, leb, ltb, length, get_or, Result, Ok, Err}
use Rattle.drr.specs.declared.State.{State}
use Rattle.drr.specs.declared.Refusal.{Refusal}
use Rattle.drr.specs.Sound.{sound_state}
use Rattle.drr.specs.Answers.{number_of, Answer, answer}
use Rattle.drr.specs.State.{quantum_of, maximum_of}
use Rattle.drr.specs.Figures.{lag, owed, wait}
use Rattle.drr.specs.Account.{bytes_waiting_in}
use Rattle.figures.specs.Time.{wait_time}

abbrev pub figure_is : ℕ → Answer
figure_is value = answer 0 (value ∷ [])

-- "the value beside a refusal is 0"
abbrev pub figure_refused : ℕ → Answer
figure_refused number = answer number (0 ∷ [])

abbrev pub figure_paper : Result ℕ Refusal → Answer
figure_paper (Ok value) = figure_is value
figure_paper (Err why) = figure_refused (number_of why)

-- "Figures: 8, 1": what stands before every figure of a flow, and then what the figure answers
unfoldable pub asked_answer : State → ℕ → Answer → Answer
asked_answer s flow figure =
    cond (sound_state s) (cond (leb s.table.n flow) (figure_refused 1) figure) (figure_refused 8)

-- what the guard makes of the figure's answer: it lets it pass, or refuses
abbrev pub guard_paper : Result (Unit {0}) Refusal → Answer → Answer
guard_paper (Ok _) figure = figure
guard_paper (Err why) figure = figure_refused (number_of why)

-- "Asked with S as a 32-bit number .. the definition has no limit on S."
abbrev pub owed_answer : State → ℕ → ℕ → Answer
owed_answer s flow S = asked_answer s flow (figure_is (owed s.table flow S))

abbrev pub wait_answer : State → ℕ → Answer
wait_answer s flow = asked_answer s flow (figure_is (wait s.table flow))

-- C, asked as a figure
abbrev pub lag_answer : State → ℕ → Answer
lag_answer s flow = asked_answer s flow (figure_is (lag s.table flow))

-- the wait in time, asked as a figure
abbrev pub time_answer : State → ℕ → ℕ → Answer
time_answer s flow rate = asked_answer s flow (figure_is (wait_time s.table flow rate))

-- E1: "how many bytes wait in a flow": the sum of the lengths that wait there, asked as a figure
abbrev pub waiting_answer : State → ℕ → Answer
waiting_answer s flow = asked_answer s flow (figure_is (bytes_waiting_in flow s))

-- ---- all figures of a flow as a list of numbers, for `drrfigures`
-- the value of an answer
abbrev pub value_of : Answer → ℕ
value_of a = get_or a.numbers 0 0

-- owed, of each number of bytes
abbrev pub owed_each : State → ℕ → List ℕ → List ℕ
owed_each s flow sizes = map (λ S. value_of (owed_answer s flow S)) sizes

-- flow, quantum, maximum, C, wait, and owed for each number of bytes
abbrev pub all_figures : State → ℕ → List ℕ → List ℕ
all_figures s flow sizes =
    flow ∷ quantum_of s.table flow ∷ maximum_of s.table flow
    ∷ value_of (lag_answer s flow) ∷ value_of (wait_answer s flow) ∷ owed_each s flow sizes

-- what is written into a list of this many numbers: nothing, where it has too few for them
unfoldable pub figures_within : State → ℕ → List ℕ → ℕ → List ℕ
figures_within s flow sizes room = cond (ltb room (5 + length sizes)) [] (all_figures s flow sizes)
