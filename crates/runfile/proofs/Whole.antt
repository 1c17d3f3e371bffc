-- The whole run of a file: what its reader hands on, its answer, and what stands in the lent list.
use mathlib.Core.Path.{◌≡◌, refl, sym, ap, subst, ◌∙◌}
use mathlib.Core.Bool.{Bool, cond}
use mathlib.Core.List.{List, ◌++◌}
use mathlib.Core.Logic.{⊎_elim}
use Prim.Native.Nat.{ℕ, ◌+◌, ◌*◌, ◌-◌, ◌≤◌, ◌<◌}
use native.Mathlib.Omega.{arith}
use borrow.Author.Tests.{lt-ltb, le-ltb, eqb-true}
use lib.Dec.{ltb, eqb}
use lib.ListN.{length, take, drop, length-drop}
use Rattle.drr.specs.declared.Table.{Table}
use Rattle.drr.specs.declared.Refusal.{Refusal}
use Rattle.drr.specs.Limits.{most_events}
use Rattle.drr.specs.Facts.{Ranged}
use Rattle.drr.specs.Answers.{number_of, fine, refused_at}
use Rattle.drr.proofs.Bools.{dec, below?}
use Rattle.drr.proofs.Papers.{number_some}
use Rattle.drr.proofs.Tables.{made_ranged}
use Rattle.runfile.specs.File.{event_count, event_offset, flow_count, flow_offset, flows_in, terms_in, events_from, layout_in}
use Rattle.runfile.specs.File.{file_answer, file_table, file_events, run_answer}
use Rattle.runfile.specs.Run.{table_in}
use Rattle.runfile.specs.Listing.{events_listing, events_waiting, run_listing, run_waiting, filled, room_of, filled_lines, filled_beside}
use Rattle.runfile.proofs.Files.{part_is, file_laid, file_setup, flows_length}

-- ---- what the reader gave of a file without a fault
module _ (b : List ℕ) (ok : (file_answer b).refusal ≡ 0) where
  pub table_is : file_table b ≡ table_in b
  unfolding file_table
  table_is = rw ok

  pub events_are : file_events b ≡ (layout_in b).events
  unfolding file_events
  events_are = rw ok

-- ---- what is handed on to the run of the events, of a file without a fault
module _ (b : List ℕ) (ok : (file_answer b).refusal ≡ 0) (T : Table) (is : T ≡ table_in b)
    (m a : ℕ) (m-is : m ≡ event_count b) (a-is : a ≡ event_offset b) where
  abbrev part : List ℕ
  part = take (length b - a) (drop a b)

  part_long : 8 * m ≤ length part
  part_long = omega (arith, (file_laid b ok).events_inside, ap length (part_is b a (event_offset b) a-is), length-drop (event_offset b) b)

  some_flow : 1 ≤ T.n
  some_flow = omega (arith, ap (λ (t : Table). t.n) is, flows_length (drop (flow_offset b) b) 0 (flow_count b), (file_laid b ok).flows_some)

  ranged : Ranged T
  ranged = subst Ranged (sym is) (made_ranged (flows_in b) (terms_in b) (file_setup b ok))

  pub handed : (out beside : List ℕ) → 6 * (event_count b + 1) ≤ room_of out beside →
      ((8 * m ≤ length part) × (m ≤ most_events)) × ((Ranged T × (1 ≤ T.n)) × ((6 * (m + 1) ≤ length out) × (m ≤ length beside)))
  handed out beside room =
      ((part_long, omega (arith, (file_laid b ok).events_few)), ((ranged, some_flow), (omega (arith, room), omega (arith, room))))

  pub listed : (out beside : List ℕ) →
      (events_listing T (events_from part 0 m) ++ drop (6 * (m + 1)) out ≡ run_listing b ++ drop (6 * (event_count b + 1)) out)
      × (events_waiting T (events_from part 0 m) ++ drop m beside ≡ run_waiting b ++ drop (event_count b) beside)
  listed out beside = (
    λ j. events_listing (is j) (events_from (part_is b a (event_offset b) a-is j) 0 (m-is j)) ++ drop (6 * (m-is j + 1)) out,
    λ j. events_waiting (is j) (events_from (part_is b a (event_offset b) a-is j) 0 (m-is j)) ++ drop (m-is j) beside,
  )

-- ---- the answer, with so much room
module _ (b : List ℕ) (room : ℕ) where
  -- it is that of the file where it refuses
  pub run_refused : (why : Refusal) (place : ℕ) → refused_at (number_of why) place ≡ file_answer b →
      refused_at (number_of why) place ≡ run_answer b room
  unfolding run_answer
  run_refused why place e = rw (← e, number_some why)

  module _ (ok : (file_answer b).refusal ≡ 0) where
    judged : run_answer b room ≡ cond (ltb room (6 * (event_count b + 1))) (refused_at 14 0) fine
    unfolding run_answer
    judged = rw ok

    pub short_refused : room < 6 * (event_count b + 1) → refused_at 14 0 ≡ run_answer b room
    short_refused l = sym (judged ∙ rw (lt-ltb room (6 * (event_count b + 1)) l))

    pub run_fine : 6 * (event_count b + 1) ≤ room → fine ≡ run_answer b room
    run_fine l = sym (judged ∙ rw (le-ltb room (6 * (event_count b + 1)) l))

  -- .. and the lent lists: as they were beside a refusal, else filled
  module _ (out beside : List ℕ) where
    pub run_leaves : (why : Refusal) (place : ℕ) → refused_at (number_of why) place ≡ run_answer b room →
        (out ≡ filled_lines room b out) × (beside ≡ filled_beside room b beside)
    unfolding filled_lines filled_beside
    run_leaves why place e = (rw (← e, number_some why), rw (← e, number_some why))

    pub run_fills : fine ≡ run_answer b room →
        (run_listing b ++ drop (6 * (event_count b + 1)) out ≡ filled_lines room b out)
        × (run_waiting b ++ drop (event_count b) beside ≡ filled_beside room b beside)
    unfolding filled_lines filled_beside
    run_fills e = (rw (← e), rw (← e))

-- ---- a run with one lent list, beside which there is room for the events of any file
module _ (b out beside : List ℕ) (wide : length beside ≡ most_events) where
  pub answer_same : run_answer b (room_of out beside) ≡ run_answer b (length out)
  unfolding run_answer
  answer_same = ⊎_elim
      (λ e. let ok = eqb-true (file_answer b).refusal 0 e in
      judged b (room_of out beside) ok ∙ ap (λ (t : Bool). cond t (refused_at 14 0) fine) (tests ok) ∙ sym (judged b (length out) ok))
      (λ e. rw e refl)
      (dec (eqb (file_answer b).refusal 0))
    where
      n : ℕ
      n = 6 * (event_count b + 1)

      tests : (file_answer b).refusal ≡ 0 → ltb (room_of out beside) n ≡ ltb (length out) n
      tests ok = ⊎_elim
          (λ l. lt-ltb (room_of out beside) n (omega arith) ∙ sym (lt-ltb (length out) n l))
          (λ l. le-ltb (room_of out beside) n (omega (arith, wide, (file_laid b ok).events_few)) ∙ sym (le-ltb (length out) n l))
          (below? (length out) n)

  pub lines_same : filled_lines (room_of out beside) b out ≡ filled b out
  unfolding filled_lines
  lines_same = rw answer_same refl
