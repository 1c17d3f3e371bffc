-- What is written as text is read back; and a run file without gaps, shown and made again, is the same bytes.
use mathlib.Core.Path.{◌≡◌, refl, sym, ap, subst, ◌∙◌}
use mathlib.Core.Bool.{Bool, true, false, cond}
use mathlib.Core.Logic.{⊎_elim}
use mathlib.Core.List.{List, [], ◌∷◌, ◌++◌, append-nil, append_assoc}
use Prim.Native.Nat.{ℕ, suc, ◌+◌, ◌≤◌, ◌<◌}
use native.Mathlib.Nat.{add-zero}
use native.Mathlib.Omega.{arith}
use borrow.Author.Tests.{lt-leb, le-ltb, ne_eqb, eqb-true}
use lib.Dec.{eqb}
use lib.ListN.{length, get_or, drop, length-append}
use Rattle.drr.specs.declared.FlowRecord.{FlowRecord}
use Rattle.drr.specs.Limits.{most_flows, most_overhead, most_events, least_quantum, most_quantum, least_maximum, most_maximum}
use Rattle.drr.specs.Answers.{Answer, fine}
use Rattle.drr.proofs.Bools.{dec}
use Rattle.drr.proofs.Tables.{InRange, made_ranged, none, cell_of}
use Rattle.runfile.specs.File.{Event, flow_count, flow_offset, event_count, event_offset, overhead_in, terms_in, flows_in, events_in}
use Rattle.runfile.specs.File.{Sorted, file_answer}
use Rattle.runfile.specs.Listing.{ticks_of, last_of}
use Rattle.runfile.proofs.Files.{header_fine, flows_length, file_header, file_laid, file_setup, file_sorted}
use Rattle.runfile.proofs.Going.{events_length}
use Rattle.text.specs.Spelt.{spelt}
use Rattle.text.specs.Text.{around}
use Rattle.answers.specs.Printed.{overhead_text}
use Rattle.answers.proofs.Overhead as answers
use Rattle.textform.specs.declared.Item.{Item}
use Rattle.std.specs.Prelude.{Result, Ok}
use Rattle.textform.specs.declared.Want.{Want}
use Rattle.textform.specs.Grammar.{lines_of, item_of}
use Rattle.textform.specs.Made.{Draft, draft, no_records, overhead_said, judged, judged_line, made, fault, and_then, drafted, outcome_of, most_text}
use Rattle.textform.specs.Made.{each, file_of, bytes_in, made_bytes}
use Rattle.textform.specs.Shown.{flow_text, event_text, text_of, shown_text, overheads_shown, plainly, Bytes, FlowsThenEvents}
use Rattle.textform.proofs.Bytes.{drop_low}
use Rattle.textform.proofs.Files.{file_again}
use Rattle.textform.proofs.Drafts.{All, InFields, Good, overhead_most, made_good, read_fields, made_reads}
use Rattle.textform.proofs.Records.{flows_most, events_most}
use Rattle.textform.proofs.Shown.{shown_fine}
use Rattle.textform.proofs.Again.{overhead_line, flow_line, event_line, overhead_split, flow_split, event_split}
use Rattle.textform.proofs.Again.{overhead_item_lem, flow_item_lem, event_item_lem}

-- ---- a line by what it says
line_by : (i : ℕ) (d : Draft) (line : List ℕ) (ls : List (List ℕ)) (item : Item) → item_of line ≡ Ok item →
    drafted i d (line ∷ ls) ≡ and_then (judged d item) (λ next. drafted (i + 1) next ls) (λ w. fault (i + 1) w)
line_by i d line ls item e = ap (λ (x : Result Item Want). and_then (judged_line d x) (λ next. drafted (i + 1) next ls) (λ w. fault (i + 1) w)) e

-- the overhead, one flow more, and one event
overhead_step : (i o : ℕ) (ls : List (List ℕ)) → o ≤ most_overhead →
    drafted i no_records (overhead_line o ∷ ls) ≡ drafted (i + 1) (draft (o ∷ []) [] [] 0) ls
overhead_step i o ls h = line_by i no_records (overhead_line o) ls _ (overhead_item_lem o h)

flow_step : (i : ℕ) (os : List ℕ) (fs : List FlowRecord) (x : FlowRecord) (ls : List (List ℕ)) → length fs < most_flows → InRange x →
    drafted i (draft os fs [] 0) (flow_line x ∷ ls) ≡ drafted (i + 1) (draft os (fs ++ x ∷ []) [] 0) ls
flow_step i os fs x ls few h =
    line_by i (draft os fs [] 0) (flow_line x) ls _ (flow_item_lem x h) ∙ rw (lt-leb most_flows (length fs) few)

event_step : (i : ℕ) (os : List ℕ) (fs : List FlowRecord) (es : List Event) (last : ℕ) (x : Event) (ls : List (List ℕ)) →
    1 ≤ length fs → length es < most_events → last ≤ x.tick → InFields x →
    drafted i (draft os fs es last) (event_line x ∷ ls) ≡ drafted (i + 1) (draft os fs (es ++ x ∷ []) x.tick) ls
event_step i os fs es last x ls some few sorted h =
    line_by i (draft os fs es last) (event_line x) ls _ (event_item_lem x h)
    ∙ rw (ne_eqb (length fs) 0 (λ e. omega arith), lt-leb most_events (length es) few, le-ltb x.tick last sorted)

-- ---- the overhead's line, if there is one, all flows, and all events behind them
overhead_drafted : (o : ℕ) (rest : List ℕ) → o ≤ most_overhead →
    drafted 0 no_records (lines_of (overhead_text o ++ rest))
    ≡ drafted (cond (eqb o 0) 0 1) (draft (overheads_shown o) [] [] 0) (lines_of rest)
overhead_drafted o rest h = by (eqb o 0)
  where
    by : (t : Bool) → drafted 0 no_records (lines_of (cond t [] (around (spelt "overhead ") o (10 ∷ [])) ++ rest))
        ≡ drafted (cond t 0 1) (draft (cond t [] (o ∷ [])) [] [] 0) (lines_of rest)
    by true = refl
    by false = ap (drafted 0 no_records) (overhead_split o rest) ∙ overhead_step 0 o (lines_of rest) h

flows_drafted : (i : ℕ) (os : List ℕ) (fs xs : List FlowRecord) (rest : List ℕ) → length fs + length xs ≤ most_flows → All InRange xs →
    drafted i (draft os fs [] 0) (lines_of (each flow_text xs ++ rest)) ≡ drafted (i + length xs) (draft os (fs ++ xs) [] 0) (lines_of rest)
flows_drafted i os fs [] rest few h =
    λ j. drafted (sym (add-zero i) j) (draft os (sym (append-nil fs) j) [] 0) (lines_of rest)
flows_drafted i os fs (x ∷ xs) rest few h =
    let more : List ℕ = each flow_text xs ++ rest in
    let n : i + 1 + length xs ≡ i + suc (length xs) = omega arith in
    ap (λ (l : List ℕ). drafted i (draft os fs [] 0) (lines_of l)) (append_assoc (flow_text x) (each flow_text xs) rest)
    ∙ ap (drafted i (draft os fs [] 0)) (flow_split x more)
    ∙ flow_step i os fs x (lines_of more) (omega arith) h.0
    ∙ flows_drafted (i + 1) os (fs ++ x ∷ []) xs rest (omega (arith, length-append fs (x ∷ []))) h.1
    ∙ (λ j. drafted (n j) (draft os (append_assoc fs (x ∷ []) xs j) [] 0) (lines_of rest))

last_line : (i : ℕ) (d : Draft) → 1 ≤ length d.flows → drafted i d ([] ∷ []) ≡ made d
unfolding item_of
last_line i d some = rw (ne_eqb (length d.flows) 0 (λ e. omega arith))

events_drafted : (i : ℕ) (os : List ℕ) (fs : List FlowRecord) (es xs : List Event) (last : ℕ) → 1 ≤ length fs →
    length es + length xs ≤ most_events → All InFields xs → Sorted last xs →
    drafted i (draft os fs es last) (lines_of (each event_text xs)) ≡ made (draft os fs (es ++ xs) (last_of last (ticks_of xs)))
events_drafted i os fs es [] last some few h sorted =
    last_line i (draft os fs es last) some ∙ ap (λ (l : List Event). made (draft os fs l last)) (sym (append-nil es))
events_drafted i os fs es (x ∷ xs) last some few h sorted =
    ap (drafted i (draft os fs es last)) (event_split x (each event_text xs))
    ∙ event_step i os fs es last x (lines_of (each event_text xs)) some (omega arith) sorted.0 h.0
    ∙ events_drafted (i + 1) os fs (es ++ x ∷ []) xs x.tick some (omega (arith, length-append es (x ∷ []))) h.1 sorted.1
    ∙ ap (λ (l : List Event). made (draft os fs l (last_of x.tick (ticks_of xs)))) (append_assoc es (x ∷ []) xs)

-- ---- the text of records such as a text can say is read back as those records
text_most : (o : ℕ) (xs : List FlowRecord) (es : List Event) → length xs ≤ most_flows → length es ≤ most_events →
    length (text_of o xs es) ≤ most_text
unfolding text_of
text_most o xs es n m =
    omega (
      arith,
      length-append (overhead_text o ++ each flow_text xs) (each event_text es),
      length-append (overhead_text o) (each flow_text xs),
      answers.overhead_most o,
      flows_most xs,
      events_most es,
    )

said_shown : (o : ℕ) → overhead_said (overheads_shown o) ≡ o
said_shown o = ⊎_elim (λ e. rw e (sym (eqb-true o 0 e))) (λ e. rw e) (dec (eqb o 0))

module _ (o : ℕ) (small : o ≤ most_overhead) (d : Draft) (g : Good d) (some : 1 ≤ length d.flows) where
  abbrev text : List ℕ
  text = text_of o d.flows d.events

  pub text_read : outcome_of text ≡ made (draft (overheads_shown o) d.flows d.events d.last)
  unfolding outcome_of text_of
  text_read =
      let os : List ℕ = overheads_shown o in
      let flows : List ℕ = each flow_text d.flows in
      let events : List ℕ = each event_text d.events in
      rw (le-ltb most_text (length text) (text_most o d.flows d.events g.flows_few g.events_few))
      (ap (λ (l : List ℕ). drafted 0 no_records (lines_of l)) (append_assoc (overhead_text o) flows events)
      ∙ overhead_drafted o (flows ++ events) small
      ∙ flows_drafted _ os [] d.flows events (omega (arith, g.flows_few)) g.flows_in_lem
      ∙ events_drafted _ os d.flows [] d.events 0 some (omega (arith, g.events_few)) g.events_in_lem g.sorted
      ∙ ap (λ (n : ℕ). made (draft os d.flows d.events n)) (sym g.last_is))

  -- .. and makes the file of those records
  pub text_made : made_bytes text ≡ file_of o d.flows d.events
  unfolding made_bytes
  text_made = ap bytes_in text_read ∙ ap (λ (k : ℕ). file_of k d.flows d.events) (said_shown o)

-- ---- the records of a file without a fault are such records
all_by : {A : Type 0} (P : A → Type 0) (none : A) (xs : List A) → ((i : ℕ) → i < length xs → P (get_or xs i none)) → All P xs
all_by P none [] h = tt
all_by P none (x ∷ xs) h = (h 0 (omega arith), all_by P none xs (λ i l. h (suc i) (omega arith)))

module _ (b : List ℕ) (low : Bytes b) (ok : (file_answer b).refusal ≡ 0) where
  abbrev with : List ℕ → Draft
  with os = draft os (flows_in b) (events_in b) (last_of 0 (ticks_of (events_in b)))

  abbrev told : Draft
  told = with (overheads_shown (overhead_in b))

  small : overhead_in b ≤ most_overhead
  small = (file_laid b ok).overhead_most

  flows_count : length (flows_in b) ≡ flow_count b
  flows_count = flows_length (drop (flow_offset b) b) 0 (flow_count b)

  flow_in_lem : (i : ℕ) → i < length (flows_in b) → InRange (get_or (flows_in b) i none)
  flow_in_lem i l =
      let xs = flows_in b in
      let few : i < 16 = omega (arith, flows_count, (file_laid b ok).flows_few) in
      let ranged = made_ranged xs (terms_in b) (file_setup b ok) in
      record {
        quantum =
            subst (λ (n : ℕ). (least_quantum ≤ n) × (n ≤ most_quantum)) (cell_of (λ r. r.quantum) 16 i xs few l)
            (ranged.quantum_in i l);
        maximum =
            subst (λ (n : ℕ). (least_maximum ≤ n) × (n ≤ most_maximum)) (cell_of (λ r. r.maximum) 16 i xs few l)
            (ranged.maximum_in i l);
      }

  records_good : Good (with [])
  records_good =
      record {
        overheads_few = omega arith;
        overheads_in = tt;
        flows_few = omega (arith, flows_count, (file_laid b ok).flows_few);
        flows_in_lem = all_by InRange none (flows_in b) flow_in_lem;
        events_few = omega (arith, events_length (drop (event_offset b) b) 0 (event_count b), (file_laid b ok).events_few);
        events_in_lem = read_fields (drop (event_offset b) b) (drop_low b low (event_offset b)) 0 (event_count b);
        sorted = file_sorted b ok;
        last_is = refl;
      }

  some_flows : 1 ≤ length (flows_in b)
  some_flows = omega (arith, flows_count, (file_laid b ok).flows_some)

  -- a shown file is read back as its overhead, table and events, with gaps or without
  pub shown_read : outcome_of (shown_text b) ≡ made told
  shown_read = ap outcome_of (sym (shown_fine b ok)) ∙ text_read (overhead_in b) small (with []) records_good some_flows

  pub shown_keeps : (file_answer (made_bytes (shown_text b)) ≡ fine) × (overhead_in (made_bytes (shown_text b)) ≡ overhead_in b)
      × (flows_in (made_bytes (shown_text b)) ≡ flows_in b) × (events_in (made_bytes (shown_text b)) ≡ events_in b)
  shown_keeps =
      let r = made_reads (shown_text b) told shown_read in
      (r.0, r.1 ∙ said_shown (overhead_in b), r.2, r.3)

  -- "a run file without gaps, shown and made again, is the same bytes"
  pub shown_made : FlowsThenEvents b → made_bytes (shown_text b) ≡ b
  shown_made w =
      ap made_bytes (sym (shown_fine b ok))
      ∙ text_made (overhead_in b) small (with []) records_good some_flows
      ∙ file_again b low (header_fine b (file_header b ok)) w

-- ---- a text that was made and is shown again has its records, a line each in the plainest form
pub made_shown : (text : List ℕ) (d : Draft) → outcome_of text ≡ made d →
    shown_text (made_bytes text) ≡ text_of (overhead_said d.overheads) d.flows d.events
made_shown text d e =
    let r = made_reads text d e in
    sym (shown_fine (made_bytes text) (ap (λ (a : Answer). a.refusal) r.0)) ∙ (λ i. text_of (r.1 i) (r.2 i) (r.3 i))

-- .. which say the same records again
pub made_shown_read : (text : List ℕ) (d : Draft) → outcome_of text ≡ made d → outcome_of (shown_text (made_bytes text)) ≡ made (plainly d)
made_shown_read text d e =
    let g = made_good text d e in
    ap outcome_of (made_shown text d e) ∙ text_read (overhead_said d.overheads) (overhead_most d g.0) d g.0 g.1
