-- What is shown of a file: its table's flows and its events are the file's records.
use mathlib.Core.Path.{◌≡◌, refl, sym, ap, ◌∙◌}
use mathlib.Core.List.{List, [], ◌∷◌, ◌++◌}
use Prim.Native.Nat.{ℕ, zero, suc, ◌+◌, ◌*◌, ◌≤◌, ◌<◌}
use native.Mathlib.Numerals.{add-one}
use native.Mathlib.Omega.{arith}
use borrow.Author.Tests.{le-ltb, lt-ltb}
use lib.ListN.{length, get_or, take, drop, length-append}
use lib.Seq.{drop-cons, take-length}
use Rattle.drr.specs.declared.FlowRecord.{FlowRecord}
use Rattle.drr.specs.declared.Table.{Table}
use Rattle.drr.specs.declared.Terms.{Terms}
use Rattle.drr.specs.declared.Refusal.{Refusal}
use Rattle.drr.specs.Limits.{most_flows, most_events}
use Rattle.drr.specs.Answers.{number_of, refused_at}
use Rattle.drr.specs.Setup.{table_for}
use Rattle.drr.proofs.Tables.{none, cell_of}
use Rattle.runfile.specs.declared.reader.Part.{Part}
use Rattle.runfile.specs.File.{flow_count, event_count, flow_offset, event_offset, overhead_in, terms_in, flows_in, events_from, events_in, part}
use Rattle.runfile.specs.File.{file_answer, file_table, file_events}
use Rattle.runfile.proofs.Files.{flows_length, file_laid, part_is}
use Rattle.runfile.proofs.Going.{events_length}
use Rattle.text.specs.Text.{refusal_text}
use Rattle.answers.specs.Printed.{overhead_text, overhead_room}
use Rattle.answers.proofs.Given.{refused_text, fine_text}
use Rattle.answers.proofs.Overhead.{overhead_most}
use Rattle.textform.specs.Made.{each}
use Rattle.textform.specs.Shown.{flow_text, event_text, records_from, flows_of, table_text, text_of, shown_text}
use Rattle.textform.specs.Shown.{flow_line_room, event_line_room, shown_room, shown_within}
use Rattle.textform.proofs.Records.{behind, flows_most, events_most}

-- ---- the records of a table that was made of records
table_flows : (xs : List FlowRecord) (terms : Terms) (f k : ℕ) → length xs ≤ most_flows → f + k ≤ length xs →
    records_from (table_for xs terms).quanta (table_for xs terms).maxima f k ≡ take k (drop f xs)
table_flows xs terms f zero few inside = refl
table_flows xs terms f (suc k) few inside =
    let q = cell_of (λ r. r.quantum) 16 f xs (omega arith) (omega arith) in
    let l = cell_of (λ r. r.maximum) 16 f xs (omega arith) (omega arith) in
    (λ i. record { quantum = q i; maximum = l i } ∷ table_flows xs terms (f + 1) k few (omega arith) i)
    ∙ ap (λ (n : ℕ). get_or xs f none ∷ take k (drop n xs)) (add-one f)
    ∙ ap (take (suc k)) (sym (drop-cons xs f none (omega arith)))

records_length : (quanta maxima : List ℕ) (f k : ℕ) → length (records_from quanta maxima f k) ≡ k
records_length quanta maxima f zero = refl
records_length quanta maxima f (suc k) = ap suc (records_length quanta maxima (f + 1) k)

pub table_length : (T : Table) → length (flows_of T) ≡ T.n
table_length T = records_length T.quanta T.maxima 0 T.n

-- ---- a buffer too short, and one that is not
module _ (b : List ℕ) where
  pub shown_short : (room : ℕ) → room < shown_room → [] ≡ shown_within b room
  unfolding shown_within
  shown_short room h = rw (lt-ltb room shown_room h)

  pub shown_fits : (room : ℕ) → shown_room ≤ room → shown_text b ≡ shown_within b room
  unfolding shown_within
  shown_fits room h = rw (le-ltb room shown_room h)

  pub shown_refusal : (why : Refusal) (place : ℕ) → refused_at (number_of why) place ≡ file_answer b →
      refusal_text (number_of why) place ≡ shown_text b
  unfolding shown_text
  shown_refusal why place e = refused_text (file_answer b) why place _ e

  -- ---- a file without a fault
  module _ (ok : (file_answer b).refusal ≡ 0) where
    flows_count : length (flows_in b) ≡ flow_count b
    flows_count = flows_length (drop (flow_offset b) b) 0 (flow_count b)

    pub table_is : file_table b ≡ table_for (flows_in b) (terms_in b)
    unfolding file_table
    table_is = rw ok

    pub events_are : file_events b ≡ part (event_count b) (event_offset b)
    unfolding file_events
    events_are = rw ok

    pub shown_fine : text_of (overhead_in b) (flows_in b) (events_in b) ≡ shown_text b
    unfolding shown_text
    shown_fine = fine_text (file_answer b) _ ok

    -- the table, and where the events stand, as the reader gives them
    module _ (T : Table) (p : Part) (is : T ≡ file_table b) (are : p ≡ file_events b) where
      pub flows_are : flows_of T ≡ flows_in b
      flows_are =
          ap flows_of (is ∙ table_is)
          ∙ table_flows (flows_in b) (terms_in b) 0 (length (flows_in b)) (omega (arith, flows_count, (file_laid b ok).flows_few))
          (omega arith)
          ∙ take-length (flows_in b)

      overhead_is : T.overhead ≡ overhead_in b
      overhead_is = ap (λ (x : Table). x.overhead) (is ∙ table_is)

      pub table_count : T.n ≡ flow_count b
      table_count = ap (λ (x : Table). x.n) (is ∙ table_is) ∙ flows_count

      pub part_count : p.count ≡ event_count b
      part_count = ap (λ (x : Part). x.count) (are ∙ events_are)

      pub part_at : p.at ≡ event_offset b
      part_at = ap (λ (x : Part). x.at) (are ∙ events_are)

      abbrev event_lines : List ℕ
      event_lines = each event_text (events_from (behind b p.at) 0 p.count)

      -- their lines are the file's text, and there is room for them
      pub shown_lines : table_text T ++ event_lines ≡ shown_text b
      unfolding text_of
      shown_lines =
          (λ i. overhead_text (overhead_is i) ++ each flow_text (flows_are i)
          ++ each event_text (events_from (part_is b p.at (event_offset b) part_at i) 0 (part_count i)))
          ∙ shown_fine

      pub table_lines_fit : length (table_text T) ≤ overhead_room + flow_line_room * most_flows
      table_lines_fit =
          let xs = flows_of T in
          omega (
            arith,
            length-append (overhead_text T.overhead) (each flow_text xs),
            overhead_most T.overhead,
            flows_most xs,
            ap length flows_are,
            flows_count,
            (file_laid b ok).flows_few,
          )

      pub event_lines_fit : length event_lines ≤ event_line_room * most_events
      event_lines_fit =
          let es = events_from (behind b p.at) 0 p.count in
          omega (
            arith,
            events_most es,
            events_length (behind b p.at) 0 p.count,
            part_count,
            (file_laid b ok).events_few,
          )
