-- The text of a run file, as `drrshow` prints it.
use Rattle.std.specs.Prelude.{◌≡◌, cond, List, [], ◌∷◌, ◌++◌, ℕ, zero, suc, ◌+◌, ◌*◌, ◌<◌, eqb, ltb, length, get_or}
use Rattle.drr.specs.declared.FlowRecord.{FlowRecord}
use Rattle.drr.specs.declared.Table.{Table}
use Rattle.drr.specs.Limits.{most_flows, most_events}
use Rattle.runfile.specs.File.{Event, header_size, flow_count, event_count, flow_offset, event_offset, overhead_in, flows_in, events_in}
use Rattle.runfile.specs.File.{file_answer}
use Rattle.text.specs.Text.{numbers_text}
use Rattle.answers.specs.Printed.{answer_text, overhead_text, overhead_room}
use Rattle.textform.specs.Grammar.{flow_word, event_word}
use Rattle.textform.specs.Made.{Draft, draft, overhead_said, each}

-- `flow QUANTUM MAXIMUM`, `event TICK FLOW LENGTH`: a line each, the words parted by one space
abbrev pub flow_text : FlowRecord → List ℕ
flow_text r = flow_word ++ 32 ∷ numbers_text (r.quantum ∷ r.maximum ∷ [])

abbrev pub event_text : Event → List ℕ
event_text e = event_word ++ 32 ∷ numbers_text (e.tick ∷ e.flow ∷ e.length ∷ [])

-- the records of a table by its quanta and maxima: k of them, from the flow f on
abbrev pub records_from : List ℕ → List ℕ → ℕ → ℕ → List FlowRecord
records_from quanta maxima f zero = []
records_from quanta maxima f (suc k) = record { quantum = get_or quanta f 0; maximum = get_or maxima f 0 } ∷ records_from quanta maxima (f + 1) k

abbrev pub flows_of : Table → List FlowRecord
flows_of T = records_from T.quanta T.maxima 0 T.n

-- what is shown of a table: the overhead, if it is not 0, then the flows
abbrev pub table_text : Table → List ℕ
table_text T = overhead_text T.overhead ++ each flow_text (flows_of T)

-- the same of the numbers that a file has, then the events
unfoldable pub text_of : ℕ → List FlowRecord → List Event → List ℕ
text_of overhead flows events = overhead_text overhead ++ each flow_text flows ++ each event_text events

-- of a file's bytes; "later programs [keep] the `R` line"
unfoldable pub shown_text : List ℕ → List ℕ
shown_text b = answer_text (file_answer b) (text_of (overhead_in b) (flows_in b) (events_in b))

-- a line's room: its word and the space, and 21 bytes for each number; and the room for any file's text, the overhead's line with it
abbrev pub flow_line_room : ℕ
flow_line_room = 5 + 21 * 2

abbrev pub event_line_room : ℕ
event_line_room = 6 + 21 * 3

abbrev pub shown_room : ℕ
shown_room = overhead_room + most_flows * flow_line_room + most_events * event_line_room

-- what is written into a buffer of this many bytes: nothing, where it has fewer than 71,438
unfoldable pub shown_within : List ℕ → ℕ → List ℕ
shown_within b room = cond (ltb room shown_room) [] (shown_text b)

-- "a run file without gaps", its tables in the order in which they are made: the flow table stands behind the header, the event table
-- behind it, and the file ends there. (Document 01 lets the event table come first; such a file is shown, and made again with the flows
-- first.)
pub record FlowsThenEvents (b : List ℕ) : Type 0 where
  pub flows_first : flow_offset b ≡ header_size
  pub events_next : event_offset b ≡ header_size + 8 * flow_count b
  pub nothing_behind : length b ≡ header_size + 8 * flow_count b + 8 * event_count b

-- a text's records as they are shown again: an overhead of 0 is left out
abbrev pub overheads_shown : ℕ → List ℕ
overheads_shown overhead = cond (eqb overhead 0) [] (overhead ∷ [])

abbrev pub plainly : Draft → Draft
plainly d = draft (overheads_shown (overhead_said d.overheads)) d.flows d.events d.last

-- every number of a list is a byte; past its end there are zeros
abbrev pub Bytes : List ℕ → Type 0
Bytes b = (i : ℕ) → get_or b i 0 < 256
