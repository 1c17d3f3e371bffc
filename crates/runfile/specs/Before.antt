-- Document 01's run without an overhead: "for document 01 charges the frame alone". Ticks pass by lengths, picks are those of drr's
-- Before.antt, and the header's last field is reserved. Where that field is 0 this is the run in force (proofs/Before.antt), and no other
-- definition stands on it.
use Rattle.std.specs.Prelude.{cond, not, ◌||◌, List, [], ◌∷◌, ◌++◌, ℕ, zero, suc, ◌+◌, ◌*◌, ltb, leb, eqb, length}
use Rattle.drr.specs.declared.Table.{Table}
use Rattle.drr.specs.Limits.{most_flows, most_events}
use Rattle.drr.specs.State.{Line, fresh_line}
use Rattle.drr.specs.Answers.{Answer, fine, refused_at, length_in, Outcome}
use Rattle.drr.specs.Arrival.{arrival_of}
use Rattle.drr.specs.Setup.{flows_answer}
use Rattle.drr.specs.Before.{pick_of}
use Rattle.runfile.specs.declared.turns.Tally.{Tally}
use Rattle.runfile.specs.File.{Event, header_size, most_bytes, flow_count, event_count, flow_offset, event_offset, stated_length}
use Rattle.runfile.specs.File.{overhead_in, tablesb, flows_in, events_in, ticks_answer, first_refused}
use Rattle.runfile.specs.Run.{Act, comes, asks, Clock, free, still, enough, table_in}
use Rattle.runfile.specs.Listing.{tally, line_for, after_event, end_line, beside_of}

-- ---- the run
-- "Sent: the line is free again after that many ticks as the packet has bytes. Idle: .."
abbrev pub onward : ℕ → Answer → Clock
onward t a = cond a.sends (free (t + length_in a)) still

unfoldable pub calls : ℕ → Table → Clock → List Event → Line → List Act
calls zero T c es l = []
calls (suc k) T still [] l = []
calls (suc k) T still (e ∷ es) l =
    comes e.tick e.flow e.length ∷ calls k T (free e.tick) es (arrival_of T l e.flow e.length).line
calls (suc k) T (free t) [] l = asks t ∷ calls k T (onward t (pick_of T l).answer) [] (pick_of T l).line
calls (suc k) T (free t) (e ∷ es) l =
    cond (leb e.tick t)
    (comes e.tick e.flow e.length ∷ calls k T (free t) es (arrival_of T l e.flow e.length).line)
    (asks t ∷ calls k T (onward t (pick_of T l).answer) (e ∷ es) (pick_of T l).line)

abbrev pub run_of : Table → List Event → List Act
run_of T es = calls (enough es) T (free 0) es (fresh_line T.n)

-- ---- its listing
abbrev pub outcome_of : Table → Line → Act → Outcome
outcome_of T l (comes tick flow length) = arrival_of T l flow length
outcome_of T l (asks tick) = pick_of T l

-- "The tick of line 3 is the end of the last packet sent"
abbrev pub after_act : Act → Answer → Tally → Tally
after_act (comes tick flow length) a y = after_event tick a.refusal y
after_act (asks tick) a y = cond a.sends (tally (y.sent + 1) y.refused (tick + length_in a)) y

unfoldable pub listing : Table → List Act → Line → Tally → List ℕ
listing T [] l y = end_line y
listing T (k ∷ ks) l y =
    line_for k (outcome_of T l k).answer ++ listing T ks (outcome_of T l k).line (after_act k (outcome_of T l k).answer y)

abbrev pub run_listing : List ℕ → List ℕ
run_listing b = listing (table_in b) (run_of (table_in b) (events_in b)) (fresh_line (table_in b).n) (tally 0 0 0)

-- .. and E1's numbers beside its lines
abbrev pub beside_all : Table → List Act → Line → List ℕ
beside_all T [] l = []
beside_all T (k ∷ ks) l = beside_of k (outcome_of T l k).answer (outcome_of T l k).line ++ beside_all T ks (outcome_of T l k).line

abbrev pub run_waiting : List ℕ → List ℕ
run_waiting b = beside_all (table_in b) (run_of (table_in b) (events_in b)) (fresh_line (table_in b).n)

-- ---- its refusals: 10 for a "reserved field not zero"
unfoldable pub header_answer : List ℕ → Answer
header_answer b =
    cond (ltb (length b) header_size || ltb most_bytes (length b)) (refused_at 9 0)
    (cond (not (eqb (stated_length b) (length b))) (refused_at 9 0)
    (cond (not (eqb (overhead_in b) 0)) (refused_at 10 0)
    (cond (eqb (flow_count b) 0 || ltb most_flows (flow_count b)) (refused_at 5 0)
    (cond (ltb most_events (event_count b)) (refused_at 11 0)
    (cond (not (tablesb (flow_count b) (event_count b) (flow_offset b) (event_offset b) (length b))) (refused_at 12 0)
    fine)))))

unfoldable pub file_answer : List ℕ → Answer
file_answer b = first_refused (header_answer b) (first_refused (flows_answer 0 (flows_in b)) (ticks_answer 0 0 (events_in b)))

unfoldable pub run_answer : List ℕ → ℕ → Answer
run_answer b room = first_refused (file_answer b) (cond (ltb room (6 * (event_count b + 1))) (refused_at 14 0) fine)
