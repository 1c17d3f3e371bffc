-- Three stretches that meet what the floor asks, computed from the definitions: document 01's run as calls, one in which something is
-- owed, and one with an overhead; and the account of the first and the last.
use mathlib.Core.Path.{◌≡◌, refl}
use mathlib.Core.List.{List, [], ◌∷◌, ◌++◌}
use Prim.Native.Nat.{◌≤◌}
use lib.Dec.{lit<}
use Rattle.drr.specs.declared.State.{State}
use Rattle.drr.specs.declared.FlowRecord.{FlowRecord}
use Rattle.drr.specs.Sound.{all, cellsb, flowb, soundb}
use Rattle.drr.specs.Answers.{guarded}
use Rattle.drr.specs.Arrival.{arrival_of}
use Rattle.drr.specs.Pick.{first_of}
use Rattle.drr.specs.Computed.{look_for}
use Rattle.drr.specs.Setup.{terms_of, setup_answer, setup_table, setup_reply}
use Rattle.drr.specs.Figures.{least_from, owed}
use Rattle.drr.specs.Floor.{Call, arrives, picks, after_calls, answers_to, bytes_sent, flow_sent, WaitsAtPicks}
use Rattle.drr.specs.Account.{just_flow, any_flow, bytes_accepted, bytes_given, bytes_waiting_in, all_bytes_waiting, Even}
use Rattle.figures.specs.Vectors.{flow, worked}
use Rattle.claims.proofs.Claims.{setup_sound, the_floor, account_from_fresh, account_from_fresh_of_all}

-- the four packets that arrive at tick 0 ..
abbrev before : List Call
before = arrives 0 200 ∷ arrives 0 750 ∷ arrives 1 500 ∷ arrives 2 400 ∷ []

-- .. and the rest of the run up to its last packet, with the arrival that is refused: flow 1 waits at each of the five picks
abbrev stretch : List Call
stretch = picks ∷ arrives 2 700 ∷ picks ∷ picks ∷ arrives 1 250 ∷ picks ∷ picks ∷ []

abbrev then : State
then = after_calls (setup_reply worked (terms_of 0)).state before

pub record Run : Type 0 where
  pub waits : WaitsAtPicks then stretch 1
  pub bytes : bytes_sent then stretch ≡ 2100
  pub sent : flow_sent then stretch 1 ≡ 750

pub run : Run
unfolding all cellsb flowb soundb guarded arrival_of first_of look_for setup_answer setup_table
run = record {
  waits = (lit< tt, (lit< tt, (lit< tt, (lit< tt, (lit< tt, tt)))));
  bytes = refl;
  sent = refl;
}

-- so the floor speaks of it
pub floor_here : owed (setup_reply worked (terms_of 0)).state.table 1 (bytes_sent then stretch) ≤ flow_sent then stretch 1
unfolding setup_answer setup_table
floor_here = the_floor (setup_reply worked (terms_of 0)).state (setup_sound worked (terms_of 0)) before stretch 1 (lit< tt) run.waits

-- ---- two flows of quantum 1 and maximum 1, three packets each, four picks: of the 4 bytes flow 1 is owed 1, and receives 2
abbrev pair : List FlowRecord
pair = flow 1 1 ∷ flow 1 1 ∷ []

abbrev arrivals : List Call
arrivals = arrives 0 1 ∷ arrives 0 1 ∷ arrives 0 1 ∷ arrives 1 1 ∷ arrives 1 1 ∷ arrives 1 1 ∷ []

abbrev four : List Call
four = picks ∷ picks ∷ picks ∷ picks ∷ []

abbrev both : State
both = after_calls (setup_reply pair (terms_of 0)).state arrivals

pub record Owing : Type 0 where
  pub waits : WaitsAtPicks both four 1
  pub bytes : bytes_sent both four ≡ 4
  pub owes : owed (setup_reply pair (terms_of 0)).state.table 1 4 ≡ 1
  pub sent : flow_sent both four 1 ≡ 2

pub owing : Owing
unfolding all cellsb flowb soundb guarded arrival_of first_of look_for setup_answer setup_table owed least_from
owing = record { waits = (lit< tt, (lit< tt, (lit< tt, (lit< tt, tt)))); bytes = refl; owes = refl; sent = refl }

pub floor_owing : owed (setup_reply pair (terms_of 0)).state.table 1 (bytes_sent both four) ≤ flow_sent both four 1
unfolding setup_answer setup_table
floor_owing = the_floor (setup_reply pair (terms_of 0)).state (setup_sound pair (terms_of 0)) arrivals four 1 (lit< tt) owing.waits

-- ---- two flows of quantum 21 and maximum 1 with an overhead of 20, the same arrivals and picks: each packet has one byte and is charged
-- 21. Of the 84 bytes on the line flow 1 is owed 11, and receives 42; in lengths 3 bytes of it were accepted, 2 sent, and 1 waits
abbrev tiny : List FlowRecord
tiny = flow 21 1 ∷ flow 21 1 ∷ []

abbrev charged : State
charged = (setup_reply tiny (terms_of 20)).state

abbrev charged_both : State
charged_both = after_calls charged arrivals

pub record Charged : Type 0 where
  pub waits : WaitsAtPicks charged_both four 1
  pub bytes : bytes_sent charged_both four ≡ 84
  pub owes : owed charged.table 1 84 ≡ 11
  pub sent : flow_sent charged_both four 1 ≡ 42
  pub accepted : bytes_accepted (just_flow 1) arrivals (answers_to charged arrivals) ≡ 3
  pub lengths : bytes_given (just_flow 1) (answers_to charged_both four) ≡ 2
  pub waiting : bytes_waiting_in 1 (after_calls charged_both four) ≡ 1

pub with_overhead : Charged
unfolding all cellsb flowb soundb guarded arrival_of first_of look_for setup_answer setup_table owed least_from
with_overhead = record {
  waits = (lit< tt, (lit< tt, (lit< tt, (lit< tt, tt))));
  bytes = refl;
  owes = refl;
  sent = refl;
  accepted = refl;
  lengths = refl;
  waiting = refl;
}

pub floor_with_overhead : owed charged.table 1 (bytes_sent charged_both four) ≤ flow_sent charged_both four 1
unfolding setup_answer setup_table
floor_with_overhead = the_floor charged (setup_sound tiny (terms_of 20)) arrivals four 1 (lit< tt) with_overhead.waits

pub account_with_overhead : Even (just_flow 1) (bytes_waiting_in 1) charged (arrivals ++ four)
unfolding setup_answer setup_table
account_with_overhead = account_from_fresh tiny (terms_of 20) refl (arrivals ++ four) 1 (lit< tt)

-- ---- the account of document 01's run after its first two picks and the arrival that is refused: of flow 0's 950 bytes 200 are sent and
-- 750 wait; flow 2 had 400 accepted and sent, and its refused 700 are in neither
abbrev some : List Call
some = arrives 0 200 ∷ arrives 0 750 ∷ arrives 1 500 ∷ arrives 2 400 ∷ picks ∷ arrives 2 700 ∷ picks ∷ []

abbrev start : State
start = (setup_reply worked (terms_of 0)).state

pub record Held : Type 0 where
  pub accepted_0 : bytes_accepted (just_flow 0) some (answers_to start some) ≡ 950
  pub sent_0 : bytes_given (just_flow 0) (answers_to start some) ≡ 200
  pub waiting_0 : bytes_waiting_in 0 (after_calls start some) ≡ 750
  pub accepted_2 : bytes_accepted (just_flow 2) some (answers_to start some) ≡ 400
  pub sent_2 : bytes_given (just_flow 2) (answers_to start some) ≡ 400
  pub waiting_2 : bytes_waiting_in 2 (after_calls start some) ≡ 0
  pub accepted : bytes_accepted any_flow some (answers_to start some) ≡ 1850
  pub sent : bytes_given any_flow (answers_to start some) ≡ 600
  pub waiting : all_bytes_waiting (after_calls start some) ≡ 1250

pub held : Held
unfolding all cellsb flowb soundb guarded arrival_of first_of look_for setup_answer setup_table
held = record {
  accepted_0 = refl;
  sent_0 = refl;
  waiting_0 = refl;
  accepted_2 = refl;
  sent_2 = refl;
  waiting_2 = refl;
  accepted = refl;
  sent = refl;
  waiting = refl;
}

-- so the account speaks of it
pub account_here : Even (just_flow 0) (bytes_waiting_in 0) start some × Even (just_flow 2) (bytes_waiting_in 2) start some
    × Even any_flow all_bytes_waiting start some
unfolding setup_answer setup_table
account_here = (
  account_from_fresh worked (terms_of 0) refl some 0 (lit< tt),
  account_from_fresh worked (terms_of 0) refl some 2 (lit< tt),
  account_from_fresh_of_all worked (terms_of 0) refl some,
)
