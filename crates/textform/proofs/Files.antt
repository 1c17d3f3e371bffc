-- The file of some records is read back as those records; and a file without gaps is the one that its records make.
use mathlib.Core.Path.{◌≡◌, refl, sym, ap, ◌∙◌}
use mathlib.Core.Bool.{true, ◌||◌}
use mathlib.Core.List.{List, [], ◌++◌, append-nil}
use Prim.Native.Nat.{ℕ, ◌+◌, ◌*◌, ◌%◌, ◌≤◌}
use native.Mathlib.Omega.{arith}
use borrow.Author.Tests.{eqb-true, not-false, le-ltb, le-leb, eq-eqb, ne_eqb}
use lib.Dec.{leb, eqb}
use lib.ListN.{length, drop, length-drop, drop_of_length-le}
use lib.Seq.{drop_at, drop-drop}
use Rattle.drr.specs.declared.FlowRecord.{FlowRecord}
use Rattle.drr.specs.Limits.{most_flows, most_overhead, most_events}
use Rattle.drr.specs.Answers.{Answer, fine}
use Rattle.runfile.specs.File.{Event, header_size, flow_count, event_count, flow_offset, event_offset, stated_length, overhead_in}
use Rattle.runfile.specs.File.{most_bytes, flows_from, events_from, flows_in, events_in, tablesb, header_answer}
use Rattle.drr.proofs.Bools.{and_both, or_inl, or_inr}
use Rattle.runfile.proofs.Files.{passed, laid_fine, flows_length}
use Rattle.runfile.proofs.Going.{events_length}
use Rattle.textform.specs.Made.{bytes2, bytes4, flow_bytes, event_bytes, each, header_bytes, record_bytes, file_of}
use Rattle.textform.specs.Shown.{Bytes, FlowsThenEvents}
use Rattle.textform.proofs.Bytes.{read2, read4, file_size, flows_size, flows_read, events_read}
use Rattle.textform.proofs.Bytes.{drop_low, again2, again4, flows_again, events_again}

-- ---- what a file without gaps says is what it is made of
module _ (b : List ℕ) (low : Bytes b) where
  -- the header, number by number
  header_parts : header_size ≤ length b →
      bytes2 (flow_count b) ++ bytes2 (event_count b) ++ bytes4 (flow_offset b) ++ bytes4 (event_offset b) ++ bytes4 (stated_length b)
      ++ bytes4 (overhead_in b) ++ drop header_size b ≡ b
  header_parts h =
      let n = bytes2 (flow_count b) in
      let m = bytes2 (event_count b) in
      let f = bytes4 (flow_offset b) in
      let e = bytes4 (event_offset b) in
      let s = bytes4 (stated_length b) in
      ap (λ (l : List ℕ). n ++ m ++ f ++ e ++ s ++ l) (again4 b low 16 (omega arith))
      ∙ ap (λ (l : List ℕ). n ++ m ++ f ++ e ++ l) (again4 b low 12 (omega arith))
      ∙ ap (λ (l : List ℕ). n ++ m ++ f ++ l) (again4 b low 8 (omega arith))
      ∙ ap (λ (l : List ℕ). n ++ m ++ l) (again4 b low 4 (omega arith))
      ∙ ap (λ (l : List ℕ). n ++ l) (again2 b low 2 (omega arith))
      ∙ again2 b low 0 (omega arith)

  -- a table of n records at o, and what follows it
  module _ (o n : ℕ) (inside : o + 8 * n ≤ length b) where
    behind : drop (8 * (0 + n)) (drop o b) ≡ drop (o + 8 * n) b
    behind = let e : o + 8 * (0 + n) ≡ o + 8 * n = omega arith in drop-drop (8 * (0 + n)) o b ∙ ap (λ (k : ℕ). drop k b) e

    fits : 8 * (0 + n) ≤ length (drop o b)
    fits = simp length-drop (omega arith)

    flows_at : each flow_bytes (flows_from (drop o b) 0 n) ++ drop (o + 8 * n) b ≡ drop o b
    flows_at =
        ap (λ (l : List ℕ). each flow_bytes (flows_from (drop o b) 0 n) ++ l) (sym behind)
        ∙ flows_again (drop o b) (drop_low b low o) 0 n fits

    events_at : each event_bytes (events_from (drop o b) 0 n) ++ drop (o + 8 * n) b ≡ drop o b
    events_at =
        ap (λ (l : List ℕ). each event_bytes (events_from (drop o b) 0 n) ++ l) (sym behind)
        ∙ events_again (drop o b) (drop_low b low o) 0 n fits

  module _ (ok : header_answer b ≡ fine) (w : FlowsThenEvents b) where
    long : header_size ≤ length b
    long = (laid_fine b ok).long

    header_again : header_bytes (flow_count b) (event_count b) (overhead_in b) ++ drop header_size b ≡ b
    header_again =
        let p = passed b (ap (λ (a : Answer). a.refusal) ok) in
        let n = bytes2 (flow_count b) in
        let m = bytes2 (event_count b) in
        let stated : stated_length b ≡ length b = eqb-true (stated_length b) (length b) (not-false _ p.stated) in
        (λ j. n ++ m ++ bytes4 (sym w.flows_first j) ++ bytes4 (sym w.events_next j)
        ++ bytes4 (sym (stated ∙ w.nothing_behind) j) ++ bytes4 (overhead_in b) ++ drop header_size b)
        ∙ header_parts long

    flows_part : each flow_bytes (flows_in b) ++ drop (event_offset b) b ≡ drop header_size b
    flows_part =
        let e : event_offset b ≡ flow_offset b + 8 * flow_count b = omega (arith, w.flows_first, w.events_next) in
        ap (λ (k : ℕ). each flow_bytes (flows_in b) ++ drop k b) e
        ∙ flows_at (flow_offset b) (flow_count b) (laid_fine b ok).flows_inside
        ∙ ap (λ (k : ℕ). drop k b) w.flows_first

    events_part : each event_bytes (events_in b) ≡ drop (event_offset b) b
    events_part =
        let all : length b ≤ event_offset b + 8 * event_count b = omega (arith, w.events_next, w.nothing_behind) in
        sym (append-nil (each event_bytes (events_in b)))
        ∙ ap (λ (l : List ℕ). each event_bytes (events_in b) ++ l) (sym (drop_of_length-le b all))
        ∙ events_at (event_offset b) (event_count b) (laid_fine b ok).events_inside

    pub file_again : file_of (overhead_in b) (flows_in b) (events_in b) ≡ b
    unfolding file_of
    file_again =
        let n = flows_length (drop (flow_offset b) b) 0 (flow_count b) in
        let m = events_length (drop (event_offset b) b) 0 (event_count b) in
        (λ j. header_bytes (n j) (m j) (overhead_in b) ++ (each flow_bytes (flows_in b) ++ events_part j))
        ∙ ap (λ (l : List ℕ). header_bytes (flow_count b) (event_count b) (overhead_in b) ++ l) flows_part
        ∙ header_again

-- ---- a header that tells of tables without gaps has no fault
tables_fine : (n m fo eo size : ℕ) → fo ≡ header_size → eo ≡ fo + 8 * n → size ≡ eo + 8 * m → tablesb n m fo eo size ≡ true
tables_fine n m fo eo size first next end =
    and_both
    (and_both
    (and_both
    (and_both (eq-eqb (fo % 4) 0 (omega arith)) (eq-eqb (eo % 4) 0 (omega arith)))
    (and_both (le-leb header_size fo (omega arith)) (le-leb header_size eo (omega arith))))
    (and_both (le-leb (fo + 8 * n) size (omega arith)) (le-leb (eo + 8 * m) size (omega arith))))
    (or_inl (eqb n 0 || eqb m 0 || leb (fo + 8 * n) eo) (leb (eo + 8 * m) fo)
    (or_inr (eqb n 0 || eqb m 0) (leb (fo + 8 * n) eo) (le-leb (fo + 8 * n) eo (omega arith))))

header_ok : (b : List ℕ) → FlowsThenEvents b → stated_length b ≡ length b → overhead_in b ≤ most_overhead → 1 ≤ flow_count b →
    flow_count b ≤ most_flows → event_count b ≤ most_events → header_answer b ≡ fine
unfolding header_answer
header_ok b w stated small some few events =
    let n = flow_count b in
    let m = event_count b in
    rw (
      tables_fine n m (flow_offset b) (event_offset b) (length b) w.flows_first (omega (arith, w.flows_first, w.events_next))
          (omega (arith, w.events_next, w.nothing_behind)),
      le-ltb (length b) header_size (omega (arith, w.nothing_behind)),
      le-ltb most_bytes (length b) (omega (arith, w.nothing_behind)),
      eq-eqb (stated_length b) (length b) stated,
      le-ltb most_overhead (overhead_in b) small,
      ne_eqb n 0 (λ e. omega arith),
      le-ltb most_flows n few,
      le-ltb most_events m events,
    )

-- ---- the file of some records
module _ (o : ℕ) (xs : List FlowRecord) (es : List Event) where
  abbrev file : List ℕ
  file = file_of o xs es

  pub flow_count_lem : flow_count file ≡ length xs
  unfolding file_of
  flow_count_lem = read2 (length xs) []

  pub event_count_lem : event_count file ≡ length es
  unfolding file_of
  event_count_lem = read2 (length es) []

  flow_offset_lem : flow_offset file ≡ header_size
  unfolding file_of
  flow_offset_lem = refl

  event_offset_lem : event_offset file ≡ header_size + 8 * length xs
  unfolding file_of
  event_offset_lem = read4 (header_size + 8 * length xs) []

  stated_length_lem : stated_length file ≡ header_size + 8 * length xs + 8 * length es
  unfolding file_of
  stated_length_lem = read4 (header_size + 8 * length xs + 8 * length es) []

  pub overhead_back : overhead_in file ≡ o
  unfolding file_of
  overhead_back = read4 o []

  pub no_gaps : FlowsThenEvents file
  no_gaps = record {
    flows_first = flow_offset_lem;
    events_next = event_offset_lem ∙ ap (λ (n : ℕ). header_size + 8 * n) (sym flow_count_lem);
    nothing_behind = file_size o xs es ∙ (λ j. header_size + 8 * sym flow_count_lem j + 8 * sym event_count_lem j);
  }

  pub header_read : o ≤ most_overhead → 1 ≤ length xs → length xs ≤ most_flows → length es ≤ most_events → header_answer file ≡ fine
  header_read small some few events =
      header_ok file no_gaps (stated_length_lem ∙ sym (file_size o xs es)) (omega (arith, overhead_back)) (omega (arith, flow_count_lem))
      (omega (arith, flow_count_lem)) (omega (arith, event_count_lem))

  tables_at : drop header_size file ≡ record_bytes xs es
  unfolding file_of
  tables_at = refl

  pub flows_back : flows_in file ≡ xs
  flows_back =
      (λ j. flows_from (drop (flow_offset_lem j) file) 0 (flow_count_lem j))
      ∙ flows_read xs (drop header_size file) (each event_bytes es) 0 tables_at

  pub events_back : events_in file ≡ es
  events_back =
      let n : ℕ = 8 * length xs in
      let at : drop (header_size + n) file ≡ each event_bytes es ++ [] =
      sym (drop-drop n header_size file)
      ∙ ap (drop n) tables_at
      ∙ drop_at (each flow_bytes xs) (each event_bytes es) n (flows_size xs)
      ∙ sym (append-nil (each event_bytes es)) in
      (λ j. events_from (drop (event_offset_lem j) file) 0 (event_count_lem j))
      ∙ events_read es (drop (header_size + n) file) [] 0 at
