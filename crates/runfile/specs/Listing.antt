-- "The run file and its listing": the listing is a reading of the run's calls.
use Rattle.std.specs.Prelude.{cond, List, [], ◌∷◌, ◌++◌, ℕ, ◌+◌, ◌*◌, min, eqb, length, take, drop}
use Rattle.drr.specs.declared.Table.{Table}
use Rattle.drr.specs.State.{Line, bytes_waiting, charge, fresh_line}
use Rattle.drr.specs.Answers.{Answer, flow_in, length_in}
use Rattle.drr.specs.Arrival.{arrival_of}
use Rattle.drr.specs.Computed.{pick_of}
use Rattle.drr.specs.Floor.{given_in, added_to}
use Rattle.runfile.specs.declared.turns.Tally.{Tally}
use Rattle.runfile.specs.File.{Event, event_count, events_in, run_answer}
use Rattle.runfile.specs.Run.{Act, comes, asks, outcome_of, table_in, run_of}

-- packets sent, events refused, and the tick of line 3, so far
abbrev pub tally : ℕ → ℕ → ℕ → Tally
tally sent refused last = record { sent = sent; refused = refused; last = last }

-- "2, the event's tick, flow, length, refusal number, 0", of an event that is refused
abbrev pub drop_line : ℕ → ℕ → ℕ → ℕ → List ℕ
drop_line tick flow length refusal = cond (eqb refusal 0) [] (2 ∷ tick ∷ flow ∷ length ∷ refusal ∷ 0 ∷ [])

-- "1, start tick, flow, length, deficit after, visits", of a pick that sends
abbrev pub start_line : ℕ → Answer → List ℕ
start_line tick a = cond a.sends (1 ∷ tick ∷ a.numbers) []

abbrev pub line_for : Act → Answer → List ℕ
line_for (comes tick flow length) a = drop_line tick flow length a.refusal
line_for (asks tick) a = start_line tick a

-- "The tick of line 3 is the end of the last packet sent; refused events after it don't move it. On a run without any sending it is
-- the latest event's tick, or 0 with no event."
abbrev pub after_event : ℕ → ℕ → Tally → Tally
after_event tick refusal y =
    tally y.sent (cond (eqb refusal 0) y.refused (y.refused + 1)) (cond (eqb y.sent 0) tick y.last)

-- E2: "line ticks .. speak of charges", so a packet ends when the line is free again
abbrev pub after_pick : Table → ℕ → Answer → Tally → Tally
after_pick T tick a y = cond a.sends (tally (y.sent + 1) y.refused (tick + charge T (length_in a))) y

abbrev pub after_act : Table → Act → Answer → Tally → Tally
after_act T (comes tick flow length) a y = after_event tick a.refusal y
after_act T (asks tick) a y = after_pick T tick a y

-- the count after the calls: line 3 tells it
abbrev pub tally_after : Table → List Act → Line → Tally → Tally
tally_after T [] l y = y
tally_after T (k ∷ ks) l y = tally_after T ks (outcome_of T l k).line (after_act T k (outcome_of T l k).answer y)

-- "3, tick when the line fell free, packets sent, events refused, 0, 0"
abbrev pub end_line : Tally → List ℕ
end_line y = 3 ∷ y.last ∷ y.sent ∷ y.refused ∷ 0 ∷ 0 ∷ []

-- the lines of the calls, six numbers each, and line 3
unfoldable pub listing : Table → List Act → Line → Tally → List ℕ
listing T [] l y = end_line y
listing T (k ∷ ks) l y =
    line_for k (outcome_of T l k).answer ++ listing T ks (outcome_of T l k).line (after_act T k (outcome_of T l k).answer y)

-- the lines that come before line 3
abbrev pub lines_of : Table → List Act → Line → List ℕ
lines_of T [] l = []
lines_of T (k ∷ ks) l = line_for k (outcome_of T l k).answer ++ lines_of T ks (outcome_of T l k).line

-- ---- beside each of these lines, the bytes that wait in the line's flow when the line is written
-- an event has a line where it is refused ..
abbrev pub beside_event : ℕ → ℕ → List ℕ
beside_event refusal number = cond (eqb refusal 0) [] (number ∷ [])

-- .. and a pick where it sends: the number beside the line of a call, if it has one, by the line l that the call leaves
abbrev pub beside_of : Act → Answer → Line → List ℕ
beside_of (comes tick flow length) a l = beside_event a.refusal (bytes_waiting l flow)
beside_of (asks tick) a l = cond a.sends (bytes_waiting l (flow_in a) ∷ []) []

-- the numbers beside the calls' lines, one each
abbrev pub beside_all : Table → List Act → Line → List ℕ
beside_all T [] l = []
beside_all T (k ∷ ks) l = beside_of k (outcome_of T l k).answer (outcome_of T l k).line ++ beside_all T ks (outcome_of T l k).line

-- the ends of the packets sent, in their order
abbrev pub end_of : Table → ℕ → Answer → List ℕ
end_of T tick a = cond a.sends ((tick + charge T (length_in a)) ∷ []) []

abbrev pub ends : Table → List Act → Line → List ℕ
ends T [] l = []
ends T (comes tick flow length ∷ ks) l = ends T ks (arrival_of T l flow length).line
ends T (asks tick ∷ ks) l = end_of T tick (pick_of T l).answer ++ ends T ks (pick_of T l).line

-- the events' ticks, and the last number of a list, d for an empty one
abbrev pub ticks_of : List Event → List ℕ
ticks_of [] = []
ticks_of (e ∷ es) = e.tick ∷ ticks_of es

abbrev pub last_of : ℕ → List ℕ → ℕ
last_of d [] = d
last_of d (x ∷ xs) = last_of x xs

-- the lengths of flow i's accepted events, in their order
abbrev pub accepted_to : Table → List Act → Line → ℕ → List ℕ
accepted_to T [] l i = []
accepted_to T (comes tick flow length ∷ ks) l i =
    added_to (arrival_of T l flow length).answer.refusal flow length i ++ accepted_to T ks (arrival_of T l flow length).line i
accepted_to T (asks tick ∷ ks) l i = accepted_to T ks (pick_of T l).line i

-- .. and of its packets sent
abbrev pub sent_to : Table → List Act → Line → ℕ → List ℕ
sent_to T [] l i = []
sent_to T (comes tick flow length ∷ ks) l i = sent_to T ks (arrival_of T l flow length).line i
sent_to T (asks tick ∷ ks) l i = given_in (pick_of T l).answer i ++ sent_to T ks (pick_of T l).line i

-- the listing of these events on a fresh line of the table
abbrev pub events_listing : Table → List Event → List ℕ
events_listing T es = listing T (run_of T es) (fresh_line T.n) (tally 0 0 0)

abbrev pub run_listing : List ℕ → List ℕ
run_listing b = events_listing (table_in b) (events_in b)

-- the numbers beside the lines of these events; line 3 has none
abbrev pub events_waiting : Table → List Event → List ℕ
events_waiting T es = beside_all T (run_of T es) (fresh_line T.n)

abbrev pub run_waiting : List ℕ → List ℕ
run_waiting b = events_waiting (table_in b) (events_in b)

-- a lent list of w numbers a line, with the numbers v in the place of as many from line k on
abbrev pub written : ℕ → List ℕ → ℕ → List ℕ → List ℕ
written w out k v = take (w * k) out ++ v ++ drop (w * k + length v) out

-- ---- the lent lists after the run of the file b with so much room: "what follows them stays"; a refused run writes nothing
unfoldable pub filled_lines : ℕ → List ℕ → List ℕ → List ℕ
filled_lines room b out = cond (eqb (run_answer b room).refusal 0) (run_listing b ++ drop (6 * (event_count b + 1)) out) out

-- of a run with one list: its own room
abbrev pub filled : List ℕ → List ℕ → List ℕ
filled b out = filled_lines (length out) b out

-- .. and with a second, for the numbers beside its lines
-- "14": the room of both lists, as numbers of the first; the second has one for each line but line 3
abbrev pub room_of : List ℕ → List ℕ → ℕ
room_of out beside = min (length out) (6 * (length beside + 1))

unfoldable pub filled_beside : ℕ → List ℕ → List ℕ → List ℕ
filled_beside room b beside = cond (eqb (run_answer b room).refusal 0) (run_waiting b ++ drop (event_count b) beside) beside
