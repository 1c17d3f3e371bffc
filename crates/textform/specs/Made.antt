-- The run file that a text makes, or the text's first fault.
use Rattle.std.specs.Prelude.{◌≡◌, cond, List, [], ◌∷◌, ◌++◌, ℕ, ◌+◌, ◌*◌, ◌/◌, ◌%◌, eqb, ltb, leb, length, take, replicate, Result, Ok, Err}
use Rattle.io.specs.Counts.{IsPrefixLen}
use Rattle.drr.specs.declared.FlowRecord.{FlowRecord}
use Rattle.drr.specs.Limits.{most_flows, most_events}
use Rattle.runfile.specs.File.{Event, header_size}
use Rattle.text.specs.Text.{overlaid}
use Rattle.textform.specs.declared.Want.{Want}
use Rattle.textform.specs.declared.Want.TheVariants as want
use Rattle.textform.specs.declared.Item.{Item}
use Rattle.textform.specs.declared.Item.TheVariants.{Nothing, OverheadOf, FlowOf, EventOf}
use Rattle.textform.specs.declared.Made.{Made}
use Rattle.textform.specs.declared.Fault.{Fault}
use Rattle.textform.specs.Grammar.{lines_of, item_of}

-- ---- the records of a text, line by line
-- the records so far, and the tick of the last event, 0 before any; of the overhead a text says at most one number
pub record Draft : Type 0 where
  pub overheads : List ℕ
  pub flows : List FlowRecord
  pub events : List Event
  pub last : ℕ

abbrev pub draft : List ℕ → List FlowRecord → List Event → ℕ → Draft
draft overheads flows events last = record { overheads = overheads; flows = flows; events = events; last = last }

abbrev pub no_records : Draft
no_records = draft [] [] [] 0

-- the table's overhead: the number that was said, 0 where it is left out
abbrev pub overhead_said : List ℕ → ℕ
overhead_said [] = 0
overhead_said (o ∷ os) = o

abbrev pub flow_of : ℕ → ℕ → FlowRecord
flow_of q l = record { quantum = q; maximum = l }

abbrev pub event_of : ℕ → ℕ → ℕ → Event
event_of t f n = record { tick = t; flow = f; length = n }

-- after a line: the records with its own, or what was expected
pub data Step : Type 0 where
  goes : Draft → Step
  stops : Want → Step

abbrev pub with_overhead : Draft → ℕ → Draft
with_overhead d o = draft (d.overheads ++ o ∷ []) d.flows d.events d.last

abbrev pub with_flow : Draft → ℕ → ℕ → Draft
with_flow d q l = draft d.overheads (d.flows ++ flow_of q l ∷ []) d.events d.last

abbrev pub with_event : Draft → ℕ → ℕ → ℕ → Draft
with_event d t f n = draft d.overheads d.flows (d.events ++ event_of t f n ∷ []) t

-- the overhead comes before the flows, at most once; flows come before events, 16 at most; then events, 1,024 at most, and their ticks
-- never fall
abbrev pub judged : Draft → Item → Step
judged d Nothing = goes d
judged d (OverheadOf o) =
    cond (ltb 0 (length d.flows)) (stops want.OverheadFirst)
    (cond (ltb 0 (length d.overheads)) (stops want.OneOverhead)
    (goes (with_overhead d o)))
judged d (FlowOf q l) =
    cond (ltb 0 (length d.events)) (stops want.EventsOnly)
    (cond (leb most_flows (length d.flows)) (stops want.FewerFlows)
    (goes (with_flow d q l)))
judged d (EventOf t f n) =
    cond (eqb (length d.flows) 0) (stops want.FlowsFirst)
    (cond (leb most_events (length d.events)) (stops want.FewerEvents)
    (cond (ltb t d.last) (stops want.LaterTick)
    (goes (with_event d t f n))))

-- .. of a line, which says a record or is not what was expected
abbrev pub judged_line : Draft → Result Item Want → Step
judged_line d (Ok item) = judged d item
judged_line d (Err w) = stops w

-- what becomes of a text: its records, or the number of the line at fault, from 1, and what was expected there
pub data Outcome : Type 0 where
  made : Draft → Outcome
  fault : ℕ → Want → Outcome

abbrev pub and_then : Step → (Draft → Outcome) → (Want → Outcome) → Outcome
and_then (goes d) then otherwise = then d
and_then (stops w) then otherwise = otherwise w

-- the lines behind line number i; there must be a flow
abbrev pub drafted : ℕ → Draft → List (List ℕ) → Outcome
drafted i d [] = cond (eqb (length d.flows) 0) (fault i want.FlowsFirst) (made d)
drafted i d (l ∷ ls) = and_then (judged_line d (item_of l)) (λ next. drafted (i + 1) next ls) (λ w. fault (i + 1) w)

-- a text of more bytes than this is at fault in the line where it passes them
abbrev pub most_text : ℕ
most_text = 131072

abbrev pub newlines : List ℕ → ℕ
newlines [] = 0
newlines (b ∷ bs) = cond (eqb b 10) (newlines bs + 1) (newlines bs)

unfoldable pub outcome_of : List ℕ → Outcome
outcome_of text =
    cond (ltb most_text (length text)) (fault (newlines (take most_text text) + 1) want.Shorter)
    (drafted 0 no_records (lines_of text))

-- ---- the bytes of a run file
-- "Little-endian": a number of two bytes, and of four
abbrev pub bytes2 : ℕ → List ℕ
bytes2 n = n % 256 ∷ n / 256 ∷ []

abbrev pub bytes4 : ℕ → List ℕ
bytes4 n = bytes2 (n % 65536) ++ bytes2 (n / 65536)

-- "A flow record is quantum (4), maximum (4). An event is tick (4), flow (2), length (2)."
abbrev pub flow_bytes : FlowRecord → List ℕ
flow_bytes r = bytes4 r.quantum ++ bytes4 r.maximum

abbrev pub event_bytes : Event → List ℕ
event_bytes e = bytes4 e.tick ++ bytes2 e.flow ++ bytes2 e.length

-- one after the other
abbrev pub each : {A : Type 0} → (A → List ℕ) → List A → List ℕ
each f [] = []
each f (x ∷ xs) = f x ++ each f xs

-- "flow count (2 bytes), event count (2), offset of the flow table (4), offset of the event table (4), file length (4), reserved, zero
-- (4)", and E2: "The run file's reserved field becomes the overhead." The flow table stands behind the header, the event table behind
-- it, and the file ends there
abbrev pub header_bytes : ℕ → ℕ → ℕ → List ℕ
header_bytes n m overhead =
    bytes2 n ++ bytes2 m ++ bytes4 header_size ++ bytes4 (header_size + 8 * n) ++ bytes4 (header_size + 8 * n + 8 * m) ++ bytes4 overhead

abbrev pub record_bytes : List FlowRecord → List Event → List ℕ
record_bytes flows events = each flow_bytes flows ++ each event_bytes events

unfoldable pub file_of : ℕ → List FlowRecord → List Event → List ℕ
file_of overhead flows events = header_bytes (length flows) (length events) overhead ++ record_bytes flows events

-- the bytes that a text makes; none where it has a fault
abbrev pub bytes_in : Outcome → List ℕ
bytes_in (made d) = file_of (overhead_said d.overheads) d.flows d.events
bytes_in (fault i w) = []

unfoldable pub made_bytes : List ℕ → List ℕ
made_bytes text = bytes_in (outcome_of text)

-- the fault in line i, as the code hands it on
abbrev pub fault_at : ℕ → Want → Fault
fault_at i w = record { line = i; want = w }

-- how many bytes the file has, or the fault
abbrev pub making_in : Outcome → Result ℕ Fault
making_in (made d) = Ok (header_size + 8 * length d.flows + 8 * length d.events)
making_in (fault i w) = Err (fault_at i w)

unfoldable pub making_of : List ℕ → Result ℕ Fault
making_of text = making_in (outcome_of text)

-- "a file without gaps takes at most 8,340 bytes"
abbrev pub most_made : ℕ
most_made = header_size + 8 * most_flows + 8 * most_events

-- what `make_file` gives: the answer, and so many bytes with the file at their start and zeros behind it
abbrev pub made_in : Outcome → Made
made_in o = record { answer = making_in o; file = overlaid (bytes_in o) (replicate most_made 0) }

unfoldable pub made_of : List ℕ → Made
made_of text = made_in (outcome_of text)

-- the size that is answered is within the bytes, so that they can be lent as a part, `&file[..size]`; it follows from `made_of`
abbrev pub Whole : Made → Type 0
Whole m = (n : ℕ) → m.answer ≡ Ok n → IsPrefixLen n m.file
