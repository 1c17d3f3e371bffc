-- The run of a file, as the list of its calls in time: what is said of a run is said of this list.
use Rattle.std.specs.Prelude.{◌≡◌, cond, List, [], ◌∷◌, ℕ, zero, suc, ◌+◌, ◌*◌, ◌≤◌, leb, length}
use Rattle.drr.specs.declared.Table.{Table}
use Rattle.drr.specs.State.{Line, charge, fresh_line}
use Rattle.drr.specs.Answers.{Answer, length_in, Outcome}
use Rattle.drr.specs.Arrival.{arrival_of}
use Rattle.drr.specs.Computed.{pick_of}
use Rattle.drr.specs.Setup.{table_for}
use Rattle.drr.specs.Floor.{Call, arrives, picks, call_of}
use Rattle.runfile.specs.File.{Event, flows_in, terms_in, events_in}

-- a call at its tick: an event is booked (tick, flow, length), or a pick is made
pub data Act : Type 0 where
  comes : ℕ → ℕ → ℕ → Act
  asks : ℕ → Act

-- the call without its tick, as demand 3 speaks of it
abbrev pub call_in : Act → Call
call_in (comes tick flow length) = arrives flow length
call_in (asks tick) = picks

abbrev pub calls_in : List Act → List Call
calls_in [] = []
calls_in (k ∷ ks) = call_in k ∷ calls_in ks

-- what a call answers and leaves
abbrev pub outcome_of : Table → Line → Act → Outcome
outcome_of T l k = call_of T l (call_in k)

-- the line: it falls free at a tick, and a pick is made there; or its last pick was idle, and it waits for an event
pub data Clock : Type 0 where
  free : ℕ → Clock
  still : Clock

-- after a pick at t. "Sent: the line is free again after that many ticks as the packet has bytes", E2: as it is charged. "Idle: .."
abbrev pub onward : Table → ℕ → Answer → Clock
onward T t a = cond a.sends (free (t + charge T (length_in a))) still

-- The calls are timed as document 01 says, from the line l on; no event below the tick `low` is left.
-- "When the line is free, all events with a tick at or before now are booked in file order, then a pick is made. .. Idle: now becomes
-- the next event's tick; with no event left the run ends." After a pick at t no event of a tick at or before t is left (`suc t`): all
-- of those were booked before it.
abbrev pub Timed : Table → ℕ → Clock → List Act → Line → Type 0
Timed T low still [] l = Unit {0}
Timed T low (free t) [] l = ⊥
Timed T low still (comes a f len ∷ ks) l = (low ≤ a) × Timed T a (free a) ks (arrival_of T l f len).line
Timed T low (free t) (comes a f len ∷ ks) l = (low ≤ a) × (a ≤ t) × Timed T a (free t) ks (arrival_of T l f len).line
Timed T low still (asks u ∷ ks) l = ⊥
Timed T low (free t) (asks u ∷ ks) l = (u ≡ t) × Timed T (suc t) (onward T t (pick_of T l).answer) ks (pick_of T l).line

-- the events that the calls book, in their order
abbrev pub booked_in : List Act → List Event
booked_in [] = []
booked_in (comes tick flow length ∷ ks) = record { tick = tick; flow = flow; length = length } ∷ booked_in ks
booked_in (asks tick ∷ ks) = booked_in ks

-- the calls that these events make, at most k of them
unfoldable pub calls : ℕ → Table → Clock → List Event → Line → List Act
calls zero T c es l = []
calls (suc k) T still [] l = []
calls (suc k) T still (e ∷ es) l =
    comes e.tick e.flow e.length ∷ calls k T (free e.tick) es (arrival_of T l e.flow e.length).line
calls (suc k) T (free t) [] l = asks t ∷ calls k T (onward T t (pick_of T l).answer) [] (pick_of T l).line
calls (suc k) T (free t) (e ∷ es) l =
    cond (leb e.tick t)
    (comes e.tick e.flow e.length ∷ calls k T (free t) es (arrival_of T l e.flow e.length).line)
    (asks t ∷ calls k T (onward T t (pick_of T l).answer) (e ∷ es) (pick_of T l).line)

-- each event is booked once and sent at most once, and makes the line idle at most once: so many calls are enough
abbrev pub enough : List Event → ℕ
enough es = 4 * length es + 2

-- "The run begins at tick 0 with a fresh state."
abbrev pub run_of : Table → List Event → List Act
run_of T es = calls (enough es) T (free 0) es (fresh_line T.n)

-- the table and the run of a file
abbrev pub table_in : List ℕ → Table
table_in b = table_for (flows_in b) (terms_in b)

abbrev pub run_calls : List ℕ → List Act
run_calls b = run_of (table_in b) (events_in b)
