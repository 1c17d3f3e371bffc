-- What `drrrun` and `drrfigures` print, by the bytes of the file that they read.
use Rattle.std.specs.Prelude.{ℕ, zero, suc, ◌+◌, ◌*◌, false, cond, List, [], ◌∷◌, ◌++◌, map, ltb, eqb, length, get_or}
use Rattle.drr.specs.declared.Table.{Table}
use Rattle.drr.specs.Limits.{most_flows, most_events}
use Rattle.drr.specs.Answers.{Answer}
use Rattle.drr.specs.State.{quantum_of, maximum_of}
use Rattle.drr.specs.Figures.{lag, owed, wait}
use Rattle.runfile.specs.File.{file_answer, flows_reply}
use Rattle.runfile.specs.Listing.{run_listing, run_waiting}
use Rattle.figures.specs.Time.{wait_time}
use Rattle.text.specs.Spelt.{spelt}
use Rattle.text.specs.Text.{listing_text, beside_text, refusal_text, numbers_text, timed_text, titles_text, parted, around, around_within}
use Rattle.answers.specs.declared.Dress.{Dress}

-- "for a refused file one line `R number place`", else the text of what the file gave
abbrev pub answer_text : Answer → List ℕ → List ℕ
answer_text a text = cond (eqb a.refusal 0) text (refusal_text a.refusal (get_or a.numbers 0 0))

-- "The program `drrrun` reads the file from standard input and prints one line each, fields parted by one space; for a refused file one
-- line `R number place`."
unfoldable pub run_text : List ℕ → List ℕ
run_text b = answer_text (file_answer b) (listing_text (run_listing b))

-- `drrrun --waiting`: beside each line but the last, the bytes then waiting in its flow
unfoldable pub waiting_text : List ℕ → List ℕ
waiting_text b = answer_text (file_answer b) (beside_text (run_listing b) (run_waiting b))

-- the line of a table's overhead; none where that is 0
abbrev pub overhead_text : ℕ → List ℕ
overhead_text overhead = cond (eqb overhead 0) [] (around (spelt "overhead ") overhead (10 ∷ []))

-- `drrfigures`, of a flow: flow, quantum, maximum, C, wait, and owed of each number of bytes
abbrev pub flow_figures : Table → List ℕ → ℕ → List ℕ
flow_figures T sizes f = f ∷ quantum_of T f ∷ maximum_of T f ∷ lag T f ∷ wait T f ∷ map (owed T f) sizes

-- its line: these and, where the line's rate is given (in bits a second, and not 0), its wait in seconds
abbrev pub flow_line : Table → List ℕ → ℕ → ℕ → List ℕ
flow_line T sizes rate f =
    cond (ltb 0 rate) (timed_text (flow_figures T sizes f) (wait_time T f rate)) (numbers_text (flow_figures T sizes f))

-- a line for each of k flows, from the flow f on
abbrev pub flow_lines : Table → List ℕ → ℕ → ℕ → ℕ → List ℕ
flow_lines T sizes rate f zero = []
flow_lines T sizes rate f (suc k) = flow_line T sizes rate f ++ flow_lines T sizes rate (f + 1) k

-- the titles, if the dress has them, and a line for each flow
abbrev pub titled_text : Table → List ℕ → Dress → List ℕ
titled_text T sizes dress =
    cond dress.titled (titles_text sizes (ltb 0 dress.rate)) [] ++ flow_lines T sizes dress.rate 0 T.n

-- .. behind the line of the table's overhead
abbrev pub rows_text : Table → List ℕ → Dress → List ℕ
rows_text T sizes dress = overhead_text T.overhead ++ titled_text T sizes dress

-- .. with the dress's byte in place of each space
abbrev pub dressed_text : Table → List ℕ → Dress → List ℕ
dressed_text T sizes dress = parted dress.parting (rows_text T sizes dress)

-- the dress without any option: spaces, no titles, no time
abbrev pub plain : Dress
plain = record { parting = 32; titled = false; rate = 0 }

-- a line for each flow of the file's table; "later programs [keep] the `R` line", in its form whatever the dress
unfoldable pub figures_text : List ℕ → List ℕ → Dress → List ℕ
figures_text b sizes dress = answer_text (flows_reply b).answer (dressed_text (flows_reply b).state.table sizes dress)

-- a run's list: six numbers for each event and for line 3; and its text, 18 bytes for each number
abbrev pub list_room : ℕ
list_room = 6 * (most_events + 1)

abbrev pub run_room : ℕ
run_room = 18 * list_room

-- .. with 21 for each number beside it, one an event
abbrev pub waiting_room : ℕ
waiting_room = run_room + 21 * most_events

-- how many numbers of bytes may be asked; a row, 30 bytes for each of its fields; the lines of sixteen flows; and titles before them
abbrev pub most_sizes : ℕ
most_sizes = 16

abbrev pub row_room : ℕ
row_room = 30 * (6 + most_sizes)

abbrev pub flows_room : ℕ
flows_room = most_flows * row_room

abbrev pub titled_room : ℕ
titled_room = row_room + flows_room

-- the overhead's line: its word and the space, 20 for the number, and the newline; and all of these
abbrev pub overhead_room : ℕ
overhead_room = 9 + 20 + 1

abbrev pub figures_room : ℕ
figures_room = overhead_room + titled_room

-- what is written of an overhead into a buffer of this many bytes: nothing, where it has fewer than 30
unfoldable pub overhead_within : ℕ → ℕ → List ℕ
overhead_within overhead room = cond (eqb overhead 0) [] (around_within (spelt "overhead ") overhead (10 ∷ []) room)

-- .. of a run: nothing, where it has fewer than 110,700, which is room for any run's text
unfoldable pub run_text_within : List ℕ → ℕ → List ℕ
run_text_within b room = cond (ltb room run_room) [] (run_text b)

-- .. nothing, where it has fewer than 132,204, which is room for any run's text with the bytes waiting beside it
unfoldable pub waiting_text_within : List ℕ → ℕ → List ℕ
waiting_text_within b room = cond (ltb room waiting_room) [] (waiting_text b)

-- .. nothing, where it has fewer than 11,250, or more than 16 numbers of bytes are asked
unfoldable pub figures_text_within : List ℕ → List ℕ → Dress → ℕ → List ℕ
figures_text_within b sizes dress room =
    cond (ltb room figures_room) [] (cond (ltb most_sizes (length sizes)) [] (figures_text b sizes dress))
