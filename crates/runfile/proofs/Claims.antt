-- What is proved of the reader and of a file's run beside their contracts.
use mathlib.Core.Path.{◌≡◌, refl, ap, ◌∙◌}
use mathlib.Core.Bool.{cond}
use mathlib.Core.List.{List, [], ◌∷◌, ◌++◌}
use Prim.Native.Nat.{ℕ, ◌+◌, ◌*◌, ◌≤◌, ◌<◌}
use native.Mathlib.Omega.{arith}
use borrow.Author.Tests.{eqb-true}
use lib.Dec.{eqb}
use lib.ListN.{length, length-append, drop}
use Rattle.drr.specs.declared.Table.{Table}
use Rattle.drr.specs.State.{Line, fresh_line, fresh_state}
use Rattle.drr.specs.Facts.{Sound, Ranged}
use Rattle.drr.specs.Figures.{owed}
use Rattle.drr.specs.Floor.{line_after, after_calls, bytes_sent, flow_sent, WaitsAtPicks}
use Rattle.drr.proofs.Bools.{by_test}
use Rattle.drr.proofs.Tables.{fresh_sound, made_ranged}
use Rattle.drr.proofs.Calls.{fresh_state_sound}
use Rattle.drr.proofs.Waiting.{fresh_waits}
use Rattle.drr.proofs.Demand3.{calls_keep, demand_3}
use Rattle.runfile.specs.declared.turns.Tally.{Tally}
use Rattle.runfile.specs.File.{event_count, event_offset, flows_in, terms_in, events_in, file_answer, run_answer}
use Rattle.runfile.specs.Run.{Act, free, Timed, booked_in, calls_in, table_in, run_calls}
use Rattle.runfile.specs.Listing.{tally, tally_after, end_line, lines_of, ends, ticks_of, last_of, accepted_to, sent_to}
use Rattle.runfile.specs.Listing.{run_listing, run_waiting, filled, filled_lines, filled_beside}
use Rattle.runfile.proofs.Files.{file_setup, file_sorted}
use Rattle.runfile.proofs.Going.{events_length}
use Rattle.runfile.proofs.Runs.{run_timed, run_books, run_only, run_empties}
use Rattle.runfile.proofs.Counts.{each_one, all_in_turn, listing_is, lines_length, beside_each, ends_count, last_is}

-- a refused run leaves the lent list as it came, and so does one with two of them
left_as : (n : ℕ) (v o : List ℕ) → (n ≡ 0 → ⊥) → cond (eqb n 0) v o ≡ o
left_as n v o some = by_test (λ (x : List ℕ). x ≡ o) (eqb n 0) (λ e. absurd (some (eqb-true n 0 e))) (λ _. refl)

pub refused_leaves_both : (b out beside : List ℕ) (room : ℕ) → ((run_answer b room).refusal ≡ 0 → ⊥) →
    (filled_lines room b out ≡ out) × (filled_beside room b beside ≡ beside)
unfolding filled_lines filled_beside
refused_leaves_both b out beside room some = (left_as _ _ out some, left_as _ _ beside some)

pub refused_leaves : (b out : List ℕ) → ((run_answer b (length out)).refusal ≡ 0 → ⊥) → filled b out ≡ out
refused_leaves b out some = (refused_leaves_both b out out (length out) some).0

-- ---- the run of a file that is not refused
module _ (b : List ℕ) (ok : (file_answer b).refusal ≡ 0) where
  abbrev T : Table
  T = table_in b

  abbrev fresh : Line
  fresh = fresh_line T.n

  ranged : Ranged T
  ranged = made_ranged (flows_in b) (terms_in b) (file_setup b ok)

  -- its calls are timed as document 01 says, they book every event in the file's order, and no other list of calls does both
  pub file_timed : Timed T 0 (free 0) (run_calls b) fresh
  file_timed = run_timed T ranged (events_in b) (file_sorted b ok)

  pub file_books : booked_in (run_calls b) ≡ events_in b
  file_books = run_books T ranged (events_in b)

  pub file_only : (ks : List Act) → Timed T 0 (free 0) ks fresh → booked_in ks ≡ events_in b → ks ≡ run_calls b
  file_only = run_only T ranged (events_in b) (file_sorted b ok)

  -- the line stays sound, after any calls and so after any of the run's
  pub file_sound : (ks : List Act) → Sound T (line_after T fresh (calls_in ks))
  file_sound ks = calls_keep T fresh (fresh_sound ranged) (calls_in ks)

  -- demand 3, in any stretch of calls and so in any of the run's
  pub file_floor : (before stretch : List Act) (i : ℕ) → i < T.n →
      WaitsAtPicks (after_calls (fresh_state T) (calls_in before)) (calls_in stretch) i →
      owed T i (bytes_sent (after_calls (fresh_state T) (calls_in before)) (calls_in stretch))
      ≤ flow_sent (after_calls (fresh_state T) (calls_in before)) (calls_in stretch) i
  file_floor before stretch = demand_3 (fresh_state T) (fresh_state_sound ranged) (calls_in before) (calls_in stretch)

  -- ---- its lines: what line 3 tells, at the end
  abbrev count : Tally
  count = tally_after T (run_calls b) fresh (tally 0 0 0)

  -- "Each event gives exactly one line": at the end S lines and D lines are the events
  pub file_lines : count.sent + count.refused ≡ event_count b
  file_lines =
      omega (
        arith,
        each_one T (run_calls b) fresh (tally 0 0 0) (fresh_sound ranged),
        run_empties T ranged (events_in b) (file_sorted b ok),
        fresh_waits T.n,
        ap length file_books,
        events_length (drop (event_offset b) b) 0 (event_count b),
      )

  -- .. and each accepted event its own S line: a flow's packets are sent in the order of its accepted events, each once
  pub file_in_turn : (i : ℕ) → i < T.n → accepted_to T (run_calls b) fresh i ≡ sent_to T (run_calls b) fresh i
  file_in_turn i i<n =
      all_in_turn T i i<n (run_calls b) fresh (fresh_sound ranged) (fresh_waits T.n)
      (run_empties T ranged (events_in b) (file_sorted b ok))

  pub file_listing : run_listing b ≡ lines_of T (run_calls b) fresh ++ end_line count
  file_listing = listing_is T (run_calls b) fresh (tally 0 0 0)

  pub file_length : length (run_listing b) ≡ 6 * (event_count b + 1)
  file_length =
      ap length file_listing ∙ length-append (lines_of T (run_calls b) fresh) (end_line count)
      ∙ omega (arith, lines_length T (run_calls b) fresh (tally 0 0 0) (fresh_sound ranged), file_lines)

  -- .. and beside each line but line 3 one number
  pub file_beside : length (run_waiting b) ≡ event_count b
  file_beside =
      omega (
        arith,
        beside_each T (run_calls b) fresh (fresh_sound ranged),
        lines_length T (run_calls b) fresh (tally 0 0 0) (fresh_sound ranged),
        file_lines,
      )

  pub file_sent : count.sent ≡ length (ends T (run_calls b) fresh)
  file_sent = omega (arith, ends_count T (run_calls b) fresh (tally 0 0 0))

  -- "The tick of line 3 is the end of the last packet sent; .. On a run without any sending it is the latest event's tick, or 0 with no
  -- event."
  tick : count.last ≡ last_of (last_of 0 (ticks_of (events_in b))) (ends T (run_calls b) fresh)
  tick = last_is T (run_calls b) fresh (tally 0 0 0) refl
      ∙ ap (λ (es : List _). last_of (last_of 0 (ticks_of es)) (ends T (run_calls b) fresh)) file_books

  pub tick_sent : (e : ℕ) (es : List ℕ) → ends T (run_calls b) fresh ≡ e ∷ es → count.last ≡ last_of e es
  tick_sent e es h = tick ∙ ap (last_of (last_of 0 (ticks_of (events_in b)))) h

  pub tick_unsent : ends T (run_calls b) fresh ≡ [] → count.last ≡ last_of 0 (ticks_of (events_in b))
  tick_unsent h = tick ∙ ap (last_of (last_of 0 (ticks_of (events_in b)))) h

  pub tick_no_event : event_count b ≡ 0 → count.last ≡ 0
  tick_no_event none =
      by (ends T (run_calls b) fresh) (omega (arith, file_sent, file_lines)) (events_in b)
      (omega (arith, events_length (drop (event_offset b) b) 0 (event_count b))) tick
    where
      by : (xs : List ℕ) → length xs ≡ 0 → (es : List _) → length es ≡ 0 → count.last ≡ last_of (last_of 0 (ticks_of es)) xs →
          count.last ≡ 0
      by [] p [] q h = h
      by (x ∷ xs) p es q h = absurd (omega arith)
      by [] p (e ∷ es) q h = absurd (omega arith)
