-- What is proved, on one page: the three demands, the account, the document's table and the text form, each claim as a statement with
-- the name of its proof. The definitions stand in the specs of drr, figures, runfile, text and textform. Beside this page: Meets.antt
-- (each function meets the contract in its source, for any numbers and any state), One.antt (no second answer meets it), Worked.antt and
-- Printed.antt (computed instances).
use mathlib.Core.Path.{◌≡◌, ap, ◌∙◌}
use mathlib.Core.Bool.{true}
use mathlib.Core.List.{List, [], ◌∷◌, ◌++◌}
use mathlib.Core.Logic.{◌↔◌, ◌≢◌}
use Prim.Native.Nat.{ℕ, ◌+◌, ◌*◌, ◌-◌, ◌/◌, ◌^◌, ◌≤◌, ◌<◌}
use native.Mathlib.Omega.{arith}
use lib.ListN.{length, take, replicate}
use mir.Val.{Val}
use denote.Laws.{Is}
use Rattle.drr.specs.declared.Table.{Table}
use Rattle.drr.specs.declared.State.{State}
use Rattle.drr.specs.declared.FlowRecord.{FlowRecord}
use Rattle.drr.specs.declared.Terms.{Terms}
use Rattle.drr.specs.Limits.{most_flows}
use Rattle.drr.specs.State.{Line, quantum_of, maximum_charge, sum_of, row_of, bytes_of, line_in, state_from, fresh_line, fresh_state, empty_table}
use Rattle.drr.specs.Sound.{soundb}
use Rattle.drr.specs.Facts.{Ranged, Shaped, Sound, SoundState, ShapedState, SameTable, SameMeaning}
use Rattle.drr.specs.Answers.{Answer, fine, refused_at, idle, visits_in, outcome, reply}
use Rattle.drr.specs.Arrival.{arrival_reply}
use Rattle.drr.specs.Pick.{Picks}
use Rattle.drr.specs.Computed.{pick_of, pick_reply}
use Rattle.drr.specs.Setup.{terms_of, table_for, setup_answer, setup_reply}
use Rattle.drr.specs.Before as before
use Rattle.drr.specs.Figures.{all_quanta, lag, Least, owed, wait}
use Rattle.drr.specs.Floor.{Call, reply_to, after_calls, answers_to, line_after, bytes_sent, flow_sent, WaitsAtPicks, Floor}
use Rattle.drr.specs.Paper.{Memory, Point, Reading, Serves, point_in, memory_in, start_point, start_memory}
use Rattle.drr.specs.Account.{just_flow, bytes_accepted, bytes_given, bytes_waiting_in, Account, AccountOfAll, FreshAccount, FreshAccountOfAll}
use Rattle.runfile.specs.declared.turns.Tally.{Tally}
use Rattle.runfile.specs.File.{event_count, overhead_in, flows_in, events_in, file_answer, file_table, run_answer}
use Rattle.runfile.specs.Run.{Act, free, outcome_of, Timed, booked_in, call_in, calls_in, table_in, run_calls}
use Rattle.runfile.specs.Listing.{tally, tally_after, end_line, lines_of, ends, ticks_of, last_of, accepted_to, sent_to}
use Rattle.runfile.specs.Before as run_before
use Rattle.runfile.specs.Listing.{run_listing, run_waiting, filled, filled_lines, filled_beside}
use Rattle.figures.specs.Answers.{figure_is, waiting_answer}
use Rattle.figures.specs.Time.{wait_time}
use Rattle.figures.specs.Vectors.{Every, marked, raised}
use Rattle.io.specs.Digits.{IsDigitCount}
use Rattle.text.specs.Text.{listing_text, beside_text, places}
use Rattle.textform.specs.declared.Want.{Want}
use Rattle.std.specs.Prelude.{Ok, Err}
use Rattle.textform.specs.Made.{Draft, overhead_said, made, fault, fault_at, bytes_in, made_bytes, making_in, making_of, most_made, made_of}
use Rattle.textform.specs.Made as textform
use Rattle.textform.specs.Shown.{text_of, shown_text, plainly, Bytes, FlowsThenEvents}
use Rattle.drr.specs.contracts.State as state
use Rattle.drr.proofs.Facts.{sound_is, of_sound}
use Rattle.drr.proofs.Shape.{shaped}
use Rattle.drr.proofs.Meaning.{one_table, one_state}
use Rattle.drr.proofs.One.{pick_is, pick_only}
use Rattle.drr.proofs.Before.{setup_same, sound_same, pick_same, lag_same, wait_same, owed_same}
use Rattle.drr.proofs.Tables.{no_flows_ranged, sound_ranged}
use Rattle.drr.proofs.Steps.{sum_most}
use Rattle.drr.proofs.Keeps.{arrival_keeps, arrival_refused_lem, pick_keeps}
use Rattle.drr.proofs.Calls.{fresh_state_sound, setup_keeps, setup_refused, setup_over, call_sound, call_hands_back, pick_fine}
use Rattle.drr.proofs.Calls.{pick_visits, idle_still}
use Rattle.drr.proofs.Figures as figures
use Rattle.drr.proofs.Demand3 as demand3
use Rattle.drr.proofs.Account as account
use Rattle.drr.proofs.Paper.{algorithm_runs, algorithm_runs_only, algorithm_starts}
use Rattle.figures.proofs.Laws.{time_least}
use Rattle.figures.proofs.Claims as figure_claims
use Rattle.figures.proofs.Vectors.{p1_to_p12, with_20}
use Rattle.runfile.proofs.Before.{answer_as_before, listing_as_before, waiting_as_before}
use Rattle.runfile.proofs.Claims as run_claims
use Rattle.runfile.proofs.Counts.{act_is_call}
use Rattle.text.proofs.Texts.{places_fewest}
use Rattle.answers.proofs.Shown as printed
use Rattle.textform.proofs.Drafts.{made_reads, made_table, made_no_gaps, made_most, made_taken}
use Rattle.textform.specs.Words.{fault_text, fault_within}
use Rattle.textform.proofs.Faults.{fits}
use Rattle.textform.proofs.Sizes as sizes
use Rattle.textform.proofs.Round as round

-- ==== DEMAND 1: any numbers, any state; a refusal hands back what it was given
-- every State that the code can hold has its arrays' lengths, and with them the soundness test is true exactly where the facts hold
pub every_state_shaped : (s : State) (vs : List Val) → Is state.the_row s vs → ShapedState s
every_state_shaped = shaped

pub test_is_facts : (T : Table) (l : Line) → Shaped T l → (soundb T l ≡ true) ↔ Sound T l
test_is_facts T l shape = (sound_is T l shape, of_sound T l)

-- "so one meaning has one state": two sound states that say the same are the same; and of tables, what is unused decides nothing
pub one_meaning : (s t : State) → SoundState s → SoundState t → SameMeaning s t → s ≡ t
one_meaning = one_state

pub one_table_meaning : (T U : Table) → Ranged T → Ranged U → SameTable T U → T ≡ U
one_table_meaning = one_table

pub arrival_hands_back : (s : State) (f length : ℕ) → ((arrival_reply s f length).answer.refusal ≡ 0 → ⊥) →
    (arrival_reply s f length).state ≡ s
arrival_hands_back s f length = call_hands_back s _ _ (arrival_refused_lem s.table (line_in s.line) f length)

pub pick_hands_back : (s : State) → ((pick_reply s).answer.refusal ≡ 0 → ⊥) → (pick_reply s).state ≡ s
pick_hands_back s = call_hands_back s _ _ (λ some. absurd (some (pick_fine s.table (line_in s.line))))

pub setup_gives_empty : (xs : List FlowRecord) (terms : Terms) → ((setup_reply xs terms).answer.refusal ≡ 0 → ⊥) →
    (setup_reply xs terms).state ≡ empty_table
setup_gives_empty = setup_refused

-- E2: an overhead above 64 is refused by 10 before the list is looked at; in a sound state it is in range, and 0 where there is no flow
pub overhead_first : (xs : List FlowRecord) (terms : Terms) → 64 < terms.overhead → (setup_reply xs terms).answer ≡ refused_at 10 0
overhead_first = setup_over

pub overhead_in_range : (s : State) → SoundState s → (s.table.overhead ≤ 64) × (s.table.n ≡ 0 → s.table.overhead ≡ 0)
overhead_in_range s ok = let r = sound_ranged ok in (r.overhead_in_range, r.no_overhead)

-- a refused run leaves the lent list as it came, and one with two lists leaves both
pub run_leaves : (b out : List ℕ) → ((run_answer b (length out)).refusal ≡ 0 → ⊥) → filled b out ≡ out
run_leaves = run_claims.refused_leaves

pub run_waiting_leaves : (b out beside : List ℕ) (room : ℕ) → ((run_answer b room).refusal ≡ 0 → ⊥) →
    (filled_lines room b out ≡ out) × (filled_beside room b beside ≡ beside)
run_waiting_leaves = run_claims.refused_leaves_both

-- ==== DEMAND 2: every pick is that of steps 1 to 3; on every sound line they have the function's answer, and no other
pub pick_has_one : (T : Table) (l : Line) → Sound T l → Picks T l (pick_of T l).answer (pick_of T l).line
pick_has_one = pick_is

pub pick_has_no_other : (T : Table) (l : Line) → Sound T l → (a : Answer) (t : Line) → Picks T l a t → outcome a t ≡ pick_of T l
pick_has_no_other = pick_only

-- the visits that a pick opens: at most sixteen times 9,280, the most that a packet is charged
pub visits_at_most : (T : Table) (l : Line) → Sound T l → visits_in (pick_of T l).answer ≤ 148480
visits_at_most = pick_visits

-- "Idle may close a visit; a second idle pick changes nothing."
pub idle_twice : (s : State) → ShapedState s → (pick_reply s).answer ≡ idle →
    pick_reply (pick_reply s).state ≡ reply idle (pick_reply s).state
idle_twice = idle_still

-- Algorithm 1 of 000 as printed (specs/Paper.antt, where lines 18 to 20 can be read two ways): from any sound state, over any calls, it
-- sends and answers what the public calls do, and nothing else; and it starts where a fresh state does
pub algorithm_calls : (s : State) → SoundState s → (r : Reading) (cs : List Call) →
    Serves s.table r (point_in s) (memory_in s) cs (answers_to s cs) (point_in (after_calls s cs)) (memory_in (after_calls s cs))
algorithm_calls = algorithm_runs

pub algorithm_only : (s : State) → SoundState s → (r : Reading) (cs : List Call) (xs : List Answer) (q : Point) (t : Memory) →
    Serves s.table r (point_in s) (memory_in s) cs xs q t →
    (xs ≡ answers_to s cs) × (q ≡ point_in (after_calls s cs)) × (t ≡ memory_in (after_calls s cs))
algorithm_only = algorithm_runs_only

pub algorithm_fresh : (T : Table) → (point_in (fresh_state T) ≡ start_point) × (memory_in (fresh_state T) ≡ start_memory)
algorithm_fresh = algorithm_starts

-- ==== DEMAND 3: the floor, `Floor` in crates/drr/specs/Floor.antt, in charges, the bytes on the line. Its picks are `pick_reply`'s, and by
-- `pick_meets` (Meets.antt) so are the code's: what holds of the one holds of the other.
pub the_floor : Floor
the_floor = demand3.demand_3

-- beside it, by the same laws of a stretch, between the waiting flow i and any other flow j: document 004's equation 19 without its
-- fractions, with one byte off each maximum charge
pub between_flows : (s : State) → SoundState s → (before stretch : List Call) (i j : ℕ) → i < s.table.n → j < s.table.n → j ≢ i →
    WaitsAtPicks (after_calls s before) stretch i →
    quantum_of s.table i * flow_sent (after_calls s before) stretch j
    ≤ quantum_of s.table j * (flow_sent (after_calls s before) stretch i + (quantum_of s.table i + (maximum_charge s.table i - 1)))
    + quantum_of s.table i * (maximum_charge s.table j - 1)
between_flows = demand3.pairs

-- it begins at a sound state: what is sound, and stays so
pub empty_sound : SoundState empty_table
empty_sound = fresh_state_sound no_flows_ranged

pub setup_sound : (xs : List FlowRecord) (terms : Terms) → SoundState (setup_reply xs terms).state
setup_sound = setup_keeps

pub arrival_sound : (s : State) (f length : ℕ) → SoundState s → SoundState (arrival_reply s f length).state
arrival_sound s f length ok = call_sound s _ _ ok (arrival_keeps s.table (line_in s.line) ok f length)

pub pick_sound : (s : State) → SoundState s → SoundState (pick_reply s).state
pick_sound s ok = call_sound s _ _ ok (pick_keeps s.table (line_in s.line) ok)

-- ==== E1, THE ACCOUNT, in crates/drr/specs/Account.antt: over any calls, refused ones among them, accepted and sent counted from the
-- calls and their answers. From fresh of any setup that is accepted: accepted is sent and waiting, for each flow and for all together
pub account_from_fresh : FreshAccount
account_from_fresh = account.fresh_account

pub account_from_fresh_of_all : FreshAccountOfAll
account_from_fresh_of_all = account.fresh_account_of_all

-- from any sound state, what waited before is added to what is accepted
pub the_account : Account
the_account = account.account

pub the_account_of_all : AccountOfAll
the_account_of_all = account.account_of_all

-- what waits is what the public question answers (`waiting_bytes_meets`, in Meets.antt): from fresh, the accepted less the sent
pub waiting_is_told : (xs : List FlowRecord) (terms : Terms) → (setup_reply xs terms).answer.refusal ≡ 0 → (cs : List Call) (i : ℕ) →
    let s = (setup_reply xs terms).state in
    i < s.table.n →
    waiting_answer (after_calls s cs) i
    ≡ figure_is (bytes_accepted (just_flow i) cs (answers_to s cs) - bytes_given (just_flow i) (answers_to s cs))
waiting_is_told = figure_claims.waiting_told

-- in a sound state each flow's sum is that of its waiting lengths, and 0 for a flow that is not in use
pub sums_are_true : (s : State) → SoundState s → (f : ℕ) → f < most_flows → sum_of (line_in s.line) f ≡ bytes_waiting_in f s
sums_are_true s ok f low = (ok.flows f low).true_sum

pub unused_sums : (s : State) → SoundState s → (f : ℕ) → f < most_flows → s.table.n ≤ f → sum_of (line_in s.line) f ≡ 0
unused_sums s ok f low past =
    let l = line_in s.line in
    (ok.flows f low).true_sum ∙ ap (λ (c : ℕ). bytes_of (take c (row_of l f))) ((ok.flows f low).unused past).no_count

-- at most 32 packets of 9,216 bytes wait in a flow
pub waiting_is_at_most : (s : State) → SoundState s → (f : ℕ) → f < s.table.n → bytes_waiting_in f s ≤ 294912
waiting_is_at_most s ok f used =
    let low : f < most_flows = omega (arith, ok.flows_few) in
    omega (arith, sums_are_true s ok f low, sum_most s.table (line_in s.line) ok f used)

-- ==== the figures: owed is the least that reaches, wait the least S at which something is owed
pub owed_is_least : (T : Table) (i S : ℕ) → 0 < all_quanta T →
    Least (λ x. quantum_of T i * S - lag T i ≤ all_quanta T * x) (owed T i S)
owed_is_least T i S some = figures.owed_least T i some S

pub owed_never_falls : (T : Table) (i S S' : ℕ) → 0 < all_quanta T → S ≤ S' → owed T i S ≤ owed T i S'
owed_never_falls T i S S' some = figures.owed_grows T i some S S'

pub wait_is_least : (T : Table) (i : ℕ) → 0 < all_quanta T → 0 < quantum_of T i → Least (λ S. 1 ≤ owed T i S) (wait T i)
wait_is_least = figures.wait_least

-- "It is C / Q rounded down, plus 1"
pub wait_is : (T : Table) (i : ℕ) → 0 < all_quanta T → 0 < quantum_of T i → wait T i ≡ lag T i / quantum_of T i + 1
wait_is = figures.wait_formula

-- in time, on a line of so many bits a second: the least hundred-millionths of a second that are at least wait × 8 / rate seconds
pub wait_time_is_least : (T : Table) (i rate : ℕ) → 0 < rate → Least (λ t. wait T i * 8 * 100000000 ≤ rate * t) (wait_time T i rate)
wait_time_is_least = time_least

-- "With one flow C is 0 and owed(S) is S."
pub one_flow : (T : Table) → T.n ≡ 1 → 0 < quantum_of T 0 → (lag T 0 ≡ 0) × ((S : ℕ) → owed T 0 S ≡ S)
one_flow T one some = (figures.one_flow_lag T one some, figures.one_flow_owed T one some)

-- P1 to P12: the table `marked`, in crates/figures/specs/Vectors.antt, and that every entry of it holds with an overhead of 0; and
-- with one of 20 every entry of `raised`
pub document_table : Every (terms_of 0) marked
document_table = p1_to_p12

pub overhead_table : Every (terms_of 20) raised
overhead_table = with_20

-- ==== E2, WITH AN OVERHEAD OF 0, as without one: setup's answer, which lines are sound, their picks, and the figures; and of a file whose
-- last header field is 0 the run's answer, its listing and the numbers beside it. The definitions without an overhead stand in Before.antt,
-- in the specs of drr and of runfile
pub setup_as_before : (xs : List FlowRecord) → setup_answer xs (terms_of 0) ≡ before.setup_answer xs
setup_as_before = setup_same

pub sound_as_before : (T : Table) → T.overhead ≡ 0 → (l : Line) → soundb T l ≡ before.soundb T l
sound_as_before = sound_same

pub picks_as_before : (T : Table) → T.overhead ≡ 0 → (l : Line) → pick_of T l ≡ before.pick_of T l
picks_as_before = pick_same

pub figures_as_before : (T : Table) → T.overhead ≡ 0 → (i : ℕ) →
    (lag T i ≡ before.lag T i) × (wait T i ≡ before.wait T i) × ((S : ℕ) → owed T i S ≡ before.owed T i S)
figures_as_before T none i = (lag_same T none i, wait_same T none i, owed_same T none i)

pub runs_as_before : (b : List ℕ) → overhead_in b ≡ 0 →
    ((room : ℕ) → run_answer b room ≡ run_before.run_answer b room)
    × (run_listing b ≡ run_before.run_listing b) × (run_waiting b ≡ run_before.run_waiting b)
runs_as_before b none = (answer_as_before b none, listing_as_before b none, waiting_as_before b none)

-- ==== DEMANDS 1 TO 3, the run: each call of it is the public one on the state made of its line
pub run_calls_public : (T : Table) (l : Line) → Sound T l → (k : Act) →
    reply_to (state_from T l) (call_in k) ≡ reply (outcome_of T l k).answer (state_from T (outcome_of T l k).line)
run_calls_public = act_is_call

-- the run of any file that is not refused
module _ (b : List ℕ) (ok : (file_answer b).refusal ≡ 0) where
  abbrev T : Table
  T = table_in b

  abbrev fresh : Line
  fresh = fresh_line T.n

  -- its calls are timed as document 01 says, book every event in order, and no other list of calls does both
  pub run_is_timed : Timed T 0 (free 0) (run_calls b) fresh
  run_is_timed = run_claims.file_timed b ok

  pub run_books_all : booked_in (run_calls b) ≡ events_in b
  run_books_all = run_claims.file_books b ok

  pub run_is_only : (ks : List Act) → Timed T 0 (free 0) ks fresh → booked_in ks ≡ events_in b → ks ≡ run_calls b
  run_is_only = run_claims.file_only b ok

  -- it stays sound, and the floor holds along it
  pub run_stays_sound : (ks : List Act) → Sound T (line_after T fresh (calls_in ks))
  run_stays_sound = run_claims.file_sound b ok

  pub run_floor : (before stretch : List Act) (i : ℕ) → i < T.n →
      WaitsAtPicks (after_calls (fresh_state T) (calls_in before)) (calls_in stretch) i →
      owed T i (bytes_sent (after_calls (fresh_state T) (calls_in before)) (calls_in stretch))
      ≤ flow_sent (after_calls (fresh_state T) (calls_in before)) (calls_in stretch) i
  run_floor = run_claims.file_floor b ok

  -- its listing: the lines of the calls, then line 3, six numbers each
  abbrev line_three : Tally
  line_three = tally_after T (run_calls b) fresh (tally 0 0 0)

  pub listing_is : run_listing b ≡ lines_of T (run_calls b) fresh ++ end_line line_three
  listing_is = run_claims.file_listing b ok

  pub listing_length : length (run_listing b) ≡ 6 * (event_count b + 1)
  listing_length = run_claims.file_length b ok

  -- S lines and D lines together are the events, and beside each of them stands one number; a flow's packets are sent in the order of its
  -- accepted events, each once
  pub one_line_each : line_three.sent + line_three.refused ≡ event_count b
  one_line_each = run_claims.file_lines b ok

  pub one_number_each : length (run_waiting b) ≡ event_count b
  one_number_each = run_claims.file_beside b ok

  pub in_turn : (i : ℕ) → i < T.n → accepted_to T (run_calls b) fresh i ≡ sent_to T (run_calls b) fresh i
  in_turn = run_claims.file_in_turn b ok

  -- the tick of line 3, in document 01's three cases: `ends` are the ends of the packets sent, in their order
  pub line_3_sent : (e : ℕ) (es : List ℕ) → ends T (run_calls b) fresh ≡ e ∷ es → line_three.last ≡ last_of e es
  line_3_sent = run_claims.tick_sent b ok

  pub line_3_unsent : ends T (run_calls b) fresh ≡ [] → line_three.last ≡ last_of 0 (ticks_of (events_in b))
  line_3_unsent = run_claims.tick_unsent b ok

  pub line_3_no_event : event_count b ≡ 0 → line_three.last ≡ 0
  line_3_no_event = run_claims.tick_no_event b ok

  -- what is printed of the list after the run: the listing's text, whatever stands behind it
  pub run_printed : (out : List ℕ) → (run_answer b (length out)).refusal ≡ 0 → listing_text (filled b out) ≡ listing_text (run_listing b)
  run_printed out = printed.run_printed b out ok

  -- .. and with what stands beside its lines, whatever stands behind either
  pub run_waiting_printed : (room : ℕ) (out beside : List ℕ) → (run_answer b room).refusal ≡ 0 →
      beside_text (filled_lines room b out) (filled_beside room b beside) ≡ beside_text (run_listing b) (run_waiting b)
  run_waiting_printed room out beside = printed.waiting_printed b room out beside ok

-- and a number is printed in the fewest digits that hold it
pub fewest_digits : (n : ℕ) → n < 10 ^ 20 → IsDigitCount 10 1 n (places n)
fewest_digits = places_fewest

-- ==== THE TEXT FORM. `outcome_of text` has the records that a text says, or its first fault; `made_bytes text` are the bytes of its file.
-- `make_file` gives them: its answer is `making_of`'s, and where that is a file of n bytes, the first n that it gives are those
pub made_answered : (text : List ℕ) → (made_of text).answer ≡ making_of text
made_answered = sizes.made_answer

pub made_given : (text : List ℕ) (n : ℕ) → making_of text ≡ Ok n → take n (made_of text).file ≡ made_bytes text
made_given text n e = ap (take n) (sizes.made_file text) ∙ made_taken text n e (replicate most_made 0)

-- a fault in line i makes no byte; 80 bytes, which drrmake has for it, are room for the line that tells it
pub fault_makes_none : (text : List ℕ) (i : ℕ) (w : Want) → textform.outcome_of text ≡ fault i w →
    (making_of text ≡ Err (fault_at i w)) × (made_bytes text ≡ [])
unfolding making_of made_bytes
fault_makes_none text i w e = (ap making_in e, ap bytes_in e)

pub fault_fits : (line : ℕ) (w : Want) → fault_within line w 80 ≡ fault_text line w
fault_fits = fits

-- a text without a fault, and its records d
module _ (text : List ℕ) (d : Draft) (e : textform.outcome_of text ≡ made d) where
  -- "what is written is read back as the same table and events": the file has no refusal of a run file
  pub made_read_back : (file_answer (made_bytes text) ≡ fine) × (overhead_in (made_bytes text) ≡ overhead_said d.overheads)
      × (flows_in (made_bytes text) ≡ d.flows) × (events_in (made_bytes text) ≡ d.events)
      × (file_table (made_bytes text) ≡ table_for d.flows (terms_of (overhead_said d.overheads)))
  made_read_back = let r = made_reads text d e in (r.0, r.1, r.2, r.3, made_table text d e)

  -- the file has no gaps, and at most 8,340 bytes
  pub made_without_gaps : FlowsThenEvents (made_bytes text) × (length (made_bytes text) ≤ most_made)
  made_without_gaps = (made_no_gaps text d e, made_most text)

  -- shown, it has a line for each record, which say the same records again, but for an overhead of 0, which is left out
  pub made_shown : (shown_text (made_bytes text) ≡ text_of (overhead_said d.overheads) d.flows d.events)
      × (textform.outcome_of (shown_text (made_bytes text)) ≡ made (plainly d))
  made_shown = (round.made_shown text d e, round.made_shown_read text d e)

-- any bytes that are a run file
module _ (b : List ℕ) (bytes : Bytes b) (ok : (file_answer b).refusal ≡ 0) where
  -- shown and made again, with gaps or without, it keeps its overhead, flows and events
  pub shown_kept : (file_answer (made_bytes (shown_text b)) ≡ fine) × (overhead_in (made_bytes (shown_text b)) ≡ overhead_in b)
      × (flows_in (made_bytes (shown_text b)) ≡ flows_in b) × (events_in (made_bytes (shown_text b)) ≡ events_in b)
  shown_kept = round.shown_keeps b bytes ok

  -- "a run file without gaps, shown and made again, is the same bytes", where its flows stand before its events
  pub shown_made_again : FlowsThenEvents b → made_bytes (shown_text b) ≡ b
  shown_made_again = round.shown_made b bytes ok
