-- "The run file": its header, its two tables, and the refusals of a reader, over the list of its bytes.
use Rattle.std.specs.Prelude.{ℕ, zero, suc, ◌+◌, ◌*◌, ◌%◌, ◌≤◌, ◌<◌, Bool, not, cond, ◌&&◌, ◌||◌, List, [], ◌∷◌, ltb, leb, eqb, length, get_or, drop, Result, Ok, Err}
use Rattle.drr.specs.declared.Table.{Table}
use Rattle.runfile.specs.declared.turns.Event.{Event as Three}
use Rattle.drr.specs.declared.FlowRecord.{FlowRecord}
use Rattle.drr.specs.declared.Terms.{Terms}
use Rattle.drr.specs.declared.Refusal.{Refusal}
use Rattle.drr.specs.Limits.{most_flows, most_overhead, most_events}
use Rattle.drr.specs.State.{no_flows, empty_table}
use Rattle.drr.specs.Answers.{Answer, number_of, fine, refused_at, Reply, reply}
use Rattle.drr.specs.Setup.{terms_of, table_for, flows_answer, setup_reply}
use Rattle.runfile.specs.declared.reader.Part.{Part}
use Rattle.runfile.specs.declared.reader.Layout.{Layout}

-- "Little-endian": two and four bytes from i on
abbrev pub le2 : List ℕ → ℕ → ℕ
le2 b i = get_or b i 0 + 256 * get_or b (i + 1) 0

abbrev pub le4 : List ℕ → ℕ → ℕ
le4 b i = le2 b i + 65536 * le2 b (i + 2)

-- "a file without gaps takes at most 8,340 bytes, and one above 12,288 is refused"; "The header has 20 bytes"
abbrev pub header_size : ℕ
header_size = 20

abbrev pub most_bytes : ℕ
most_bytes = 12288

-- "flow count (2 bytes), event count (2), offset of the flow table (4), offset of the event table (4), file length (4), reserved, zero
-- (4)"; E2: "The run file's reserved field becomes the overhead."
abbrev pub flow_count : List ℕ → ℕ
flow_count b = le2 b 0

abbrev pub event_count : List ℕ → ℕ
event_count b = le2 b 2

abbrev pub flow_offset : List ℕ → ℕ
flow_offset b = le4 b 4

abbrev pub event_offset : List ℕ → ℕ
event_offset b = le4 b 8

abbrev pub stated_length : List ℕ → ℕ
stated_length b = le4 b 12

abbrev pub overhead_in : List ℕ → ℕ
overhead_in b = le4 b 16

-- a table of the file: how many records it has, and its offset
abbrev pub part : ℕ → ℕ → Part
part count at = record { count = count; at = at }

abbrev pub no_records : Part
no_records = part 0 0

-- .. in as many bytes as the header has for them
pub record Narrow (p : Part) : Type 0 where
  pub count_narrow : p.count < 65536
  pub at_narrow : p.at < 4294967296

-- where the two tables are
abbrev pub layout_in : List ℕ → Layout
layout_in b = record { flows = part (flow_count b) (flow_offset b); events = part (event_count b) (event_offset b) }

abbrev pub no_tables : Layout
no_tables = record { flows = no_records; events = no_records }

-- "A flow record is quantum (4), maximum (4)": k records of the table t from number i on
abbrev pub flows_from : List ℕ → ℕ → ℕ → List FlowRecord
flows_from t i zero = []
flows_from t i (suc k) = record { quantum = le4 t (8 * i); maximum = le4 t (8 * i + 4) } ∷ flows_from t (i + 1) k

-- "An event is tick (4), flow (2), length (2)." The code has a struct of these three numbers
abbrev pub Event : Type 0
Event = Three

abbrev pub event_at : List ℕ → ℕ → Event
event_at t i = record { tick = le4 t (8 * i); flow = le2 t (8 * i + 4); length = le2 t (8 * i + 6) }

abbrev pub events_from : List ℕ → ℕ → ℕ → List Event
events_from t i zero = []
events_from t i (suc k) = event_at t i ∷ events_from t (i + 1) k

-- the tables; "The event table is read as the part of the file that starts at its offset."
abbrev pub flows_in : List ℕ → List FlowRecord
flows_in b = flows_from (drop (flow_offset b) b) 0 (flow_count b)

-- what setup is told beside the flows
abbrev pub terms_in : List ℕ → Terms
terms_in b = terms_of (overhead_in b)

abbrev pub events_in : List ℕ → List Event
events_in b = events_from (drop (event_offset b) b) 0 (event_count b)

-- "Offsets are multiples of 4, at or past byte 20. Tables lie inside the file (offset plus size at most the file length, for an empty
-- table too) and share no byte; a table without records shares none."
abbrev pub tablesb : ℕ → ℕ → ℕ → ℕ → ℕ → Bool
tablesb flows events flows_at events_at size =
    (eqb (flows_at % 4) 0 && eqb (events_at % 4) 0)
    && (leb header_size flows_at && leb header_size events_at)
    && (leb (flows_at + 8 * flows) size && leb (events_at + 8 * events) size)
    && (eqb flows 0 || eqb events 0 || leb (flows_at + 8 * flows) events_at || leb (events_at + 8 * events) flows_at)

-- 9, 10, 5, 11, 12: "file under 20 or above 12,288 bytes, or stated length not the true one", E2: "10 now means an overhead above 64,
-- tested .. in a run where it stood", "flow list of 0 or more than 16", "more than 1,024 events", "an offset or table against the rules
-- above"
unfoldable pub header_answer : List ℕ → Answer
header_answer b =
    cond (ltb (length b) header_size || ltb most_bytes (length b)) (refused_at 9 0)
    (cond (not (eqb (stated_length b) (length b))) (refused_at 9 0)
    (cond (ltb most_overhead (overhead_in b)) (refused_at 10 0)
    (cond (eqb (flow_count b) 0 || ltb most_flows (flow_count b)) (refused_at 5 0)
    (cond (ltb most_events (event_count b)) (refused_at 11 0)
    (cond (not (tablesb (flow_count b) (event_count b) (flow_offset b) (event_offset b) (length b))) (refused_at 12 0)
    fine)))))

-- .. of what the code hands on: "else 0" is the place of a header's refusal
abbrev pub header_paper : Result Layout Refusal → Answer
header_paper (Ok layout) = fine
header_paper (Err why) = refused_at (number_of why) 0

-- where the tables are, of a header without a fault
unfoldable pub header_layout : List ℕ → Layout
header_layout b = cond (eqb (header_answer b).refusal 0) (layout_in b) no_tables

-- 13: "an event's tick below the one before", from event i on, where the tick before was `last`
abbrev pub ticks_answer : ℕ → ℕ → List Event → Answer
ticks_answer i last [] = fine
ticks_answer i last (e ∷ es) = cond (ltb e.tick last) (refused_at 13 i) (ticks_answer (i + 1) e.tick es)

-- no 13: the ticks never fall, from `low` on
abbrev pub Sorted : ℕ → List Event → Type 0
Sorted low [] = Unit {0}
Sorted low (e ∷ es) = (low ≤ e.tick) × Sorted e.tick es

-- the first of two answers that refuses
abbrev pub first_refused : Answer → Answer → Answer
first_refused a b = cond (eqb a.refusal 0) b a

-- "9, 10, 5, 11, 12, 6 and 7 by flow, 13"
unfoldable pub file_answer : List ℕ → Answer
file_answer b = first_refused (header_answer b) (first_refused (flows_answer 0 (flows_in b)) (ticks_answer 0 0 (events_in b)))

-- "14": a lent list of `room` numbers is too short for "six 64-bit numbers a line, for events + 1 lines"
unfoldable pub run_answer : List ℕ → ℕ → Answer
run_answer b room = first_refused (file_answer b) (cond (ltb room (6 * (event_count b + 1))) (refused_at 14 0) fine)

-- the table, and where the events stand; a refusal gives the empty table, as setup's does, and no events
unfoldable pub file_table : List ℕ → Table
file_table b = cond (eqb (file_answer b).refusal 0) (table_for (flows_in b) (terms_in b)) no_flows

unfoldable pub file_events : List ℕ → Part
file_events b = cond (eqb (file_answer b).refusal 0) (part (event_count b) (event_offset b)) no_records

-- the answer of a reader that leaves the events alone: "9, 10, 5, 11, 12, 6 and 7 by flow", and the fresh state
unfoldable pub flows_reply : List ℕ → Reply
flows_reply b = cond (eqb (header_answer b).refusal 0) (setup_reply (flows_in b) (terms_in b)) (reply (header_answer b) empty_table)

-- what a header without a fault says
pub record Laid (b : List ℕ) : Type 0 where
  pub long : header_size ≤ length b
  pub short : length b ≤ most_bytes
  pub overhead_most : overhead_in b ≤ most_overhead
  pub flows_some : 1 ≤ flow_count b
  pub flows_few : flow_count b ≤ most_flows
  pub events_few : event_count b ≤ most_events
  pub flows_inside : flow_offset b + 8 * flow_count b ≤ length b
  pub events_inside : event_offset b + 8 * event_count b ≤ length b
