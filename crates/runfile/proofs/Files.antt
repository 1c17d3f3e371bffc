-- The run file: what a header without a fault says, the records that the reader copies, and the answer that it gives as a whole.
use mathlib.Core.Path.{◌≡◌, refl, sym, ap, ◌∙◌}
use mathlib.Core.Bool.{Bool, true, false, not, cond, ◌&&◌, ◌||◌}
use mathlib.Core.List.{List, [], ◌∷◌}
use Prim.Native.Nat.{ℕ, zero, suc, ◌+◌, ◌*◌, ◌-◌, ◌%◌, ◌≤◌, ◌<◌}
use native.Mathlib.Nat.{add-zero}
use native.Mathlib.Omega.{arith}
use borrow.Author.Tests.{ltb-false, leb-true, eqb-true, eqb-false, not-false, lt-ltb, le-ltb}
use lib.Dec.{ltb, leb, eqb}
use lib.ListN.{length, get_or, take, drop, length-drop}
use lib.Seq.{take_all}
use Rattle.drr.specs.declared.FlowRecord.{FlowRecord}
use Rattle.drr.specs.declared.Refusal.{Refusal}
use Rattle.drr.specs.declared.Table.{Table}
use Rattle.drr.specs.Limits.{most_flows, most_overhead, most_events}
use Rattle.drr.specs.State.{no_flows, fresh_state}
use Rattle.drr.specs.Answers.{number_of, Answer, fine, refused_at, reply}
use Rattle.drr.specs.Setup.{flows_answer, setup_answer, setup_table, setup_reply}
use Rattle.drr.proofs.Bools.{or_left, and_left, and_right, or_right}
use Rattle.drr.proofs.Papers.{number_some}
use Rattle.drr.proofs.Tables.{none}
use Rattle.runfile.specs.declared.reader.Part.{Part}
use Rattle.runfile.specs.File.{le4, header_size, most_bytes, flow_count, event_count, flow_offset, event_offset, stated_length, overhead_in}
use Rattle.runfile.specs.File.{no_records, layout_in, flows_from, Event, events_from, flows_in, terms_in, events_in, tablesb, header_answer}
use Rattle.runfile.specs.File.{header_layout, ticks_answer, Sorted, first_refused, file_answer, file_table, file_events, flows_reply, Laid}

-- ---- the header
-- a test that refuses by a number other than 0 was not met where nothing is refused
peel : (t : Bool) (k : ℕ) (x : Answer) → (cond t (refused_at (suc k) 0) x).refusal ≡ 0 → (t ≡ false) × (x.refusal ≡ 0)
peel true k x e = absurd (omega arith)
peel false k x e = (refl, e)

-- the six tests, each not met
pub record Passed (b : List ℕ) : Type 0 where
  pub size : (ltb (length b) header_size || ltb most_bytes (length b)) ≡ false
  pub stated : not (eqb (stated_length b) (length b)) ≡ false
  pub overhead : ltb most_overhead (overhead_in b) ≡ false
  pub flows : (eqb (flow_count b) 0 || ltb most_flows (flow_count b)) ≡ false
  pub events : ltb most_events (event_count b) ≡ false
  pub tables : not (tablesb (flow_count b) (event_count b) (flow_offset b) (event_offset b) (length b)) ≡ false

pub passed : (b : List ℕ) → (header_answer b).refusal ≡ 0 → Passed b
unfolding header_answer
passed b e =
    let p1 = peel (ltb (length b) header_size || ltb most_bytes (length b)) 8 _ e in
    let p2 = peel (not (eqb (stated_length b) (length b))) 8 _ p1.1 in
    let p3 = peel (ltb most_overhead (overhead_in b)) 9 _ p2.1 in
    let p4 = peel (eqb (flow_count b) 0 || ltb most_flows (flow_count b)) 4 _ p3.1 in
    let p5 = peel (ltb most_events (event_count b)) 10 _ p4.1 in
    let p6 = peel (not (tablesb (flow_count b) (event_count b) (flow_offset b) (event_offset b) (length b))) 11 _ p5.1 in
    record { size = p1.0; stated = p2.0; overhead = p3.0; flows = p4.0; events = p5.0; tables = p6.0 }

pub header_fine : (b : List ℕ) → (header_answer b).refusal ≡ 0 → header_answer b ≡ fine
unfolding header_answer
header_fine b e = let p = passed b e in rw (p.size, p.stated, p.overhead, p.flows, p.events, p.tables)

-- tables that lie as they should lie inside the file
inside : (n m fo eo size : ℕ) → tablesb n m fo eo size ≡ true → (fo + 8 * n ≤ size) × (eo + 8 * m ≤ size)
inside n m fo eo size e =
    let both = and_right ((eqb (fo % 4) 0 && eqb (eo % 4) 0) && (leb header_size fo && leb header_size eo))
    (leb (fo + 8 * n) size && leb (eo + 8 * m) size)
    (and_left ((eqb (fo % 4) 0 && eqb (eo % 4) 0) && (leb header_size fo && leb header_size eo) &&
    (leb (fo + 8 * n) size && leb (eo + 8 * m) size)) (eqb n 0 || eqb m 0 || leb (fo + 8 * n) eo || leb (eo + 8 * m) fo) e) in (
      leb-true (fo + 8 * n) size (and_left (leb (fo + 8 * n) size) (leb (eo + 8 * m) size) both),
      leb-true (eo + 8 * m) size (and_right (leb (fo + 8 * n) size) (leb (eo + 8 * m) size) both),
    )

pub laid : (b : List ℕ) → (header_answer b).refusal ≡ 0 → Laid b
laid b e =
    let p = passed b e in
    let n = flow_count b in
    let m = event_count b in
    let lie = inside n m (flow_offset b) (event_offset b) (length b)
    (not-false (tablesb n m (flow_offset b) (event_offset b) (length b)) p.tables) in
    record {
      long = ltb-false (length b) header_size (or_left (ltb (length b) header_size) (ltb most_bytes (length b)) p.size);
      short = ltb-false most_bytes (length b) (or_right (ltb (length b) header_size) (ltb most_bytes (length b)) p.size);
      overhead_most = ltb-false most_overhead (overhead_in b) p.overhead;
      flows_some = omega (arith, eqb-false n 0 (or_left (eqb n 0) (ltb most_flows n) p.flows));
      flows_few = ltb-false most_flows n (or_right (eqb n 0) (ltb most_flows n) p.flows);
      events_few = ltb-false most_events m p.events;
      flows_inside = lie.0;
      events_inside = lie.1;
    }

pub laid_fine : (b : List ℕ) → header_answer b ≡ fine → Laid b
laid_fine b e = laid b (ap (λ (a : Answer). a.refusal) e)

-- the part of the file from a on, as the code hands it on
pub part_is : (b : List ℕ) (a o : ℕ) → a ≡ o → take (length b - a) (drop a b) ≡ drop o b
part_is b a o e = take_all (length b - a) (drop a b) (simp length-drop (omega arith)) ∙ ap (λ (i : ℕ). drop i b) e

-- ---- the flow table, record by record
abbrev record_in : List ℕ → ℕ → FlowRecord
record_in t i = record { quantum = le4 t (8 * i); maximum = le4 t (8 * i + 4) }

pub flow_at : (t : List ℕ) (f c k : ℕ) → k < c → get_or (flows_from t f c) k none ≡ record_in t (f + k)
flow_at t f zero k l = absurd (omega arith)
flow_at t f (suc c) zero l = ap (record_in t) (sym (add-zero f))
flow_at t f (suc c) (suc k) l =
    let e : f + 1 + k ≡ f + suc k = omega arith in
    flow_at t (f + 1) c k (omega arith) ∙ ap (record_in t) e

pub flows_length : (t : List ℕ) (f c : ℕ) → length (flows_from t f c) ≡ c
flows_length t f zero = refl
flows_length t f (suc c) = ap suc (flows_length t (f + 1) c)

-- setup finds the overhead and their number in range where the header has no fault, and so answers flow by flow
module _ (b : List ℕ) (ok : header_answer b ≡ fine) where
  counted : (eqb (length (flows_in b)) 0 || ltb most_flows (length (flows_in b))) ≡ false
  counted = rw (flows_length (drop (flow_offset b) b) 0 (flow_count b)) (passed b (ap (λ (a : Answer). a.refusal) ok)).flows

  pub judged : setup_answer (flows_in b) (terms_in b) ≡ flows_answer 0 (flows_in b)
  unfolding setup_answer
  judged = rw ((passed b (ap (λ (a : Answer). a.refusal) ok)).overhead, counted)

-- ---- the events from i on, of c in all, where the tick before was `last`
module _ (t : List ℕ) (c i last : ℕ) where
  abbrev rest : Answer
  rest = ticks_answer i last (events_from t i (c - i))

  pub no_more : c ≤ i → rest ≡ fine
  no_more h = let e : c - i ≡ 0 = omega arith in rw e

  module _ (more : i < c) where
    one_more : c - i ≡ suc (c - (i + 1))
    one_more = omega arith

    -- r is the tick that was read
    module _ (r : ℕ) (read : r ≡ le4 t (8 * i)) where
      pub tick_falls : r < last → rest ≡ refused_at 13 i
      tick_falls h = rw (one_more, ← read, lt-ltb r last h)

      pub tick_fine : last ≤ r → rest ≡ ticks_answer (i + 1) r (events_from t (i + 1) (c - (i + 1)))
      tick_fine h = rw (one_more, ← read, le-ltb r last h)

pub ticks_sorted : (i low : ℕ) (es : List Event) → (ticks_answer i low es).refusal ≡ 0 → Sorted low es
ticks_sorted i low [] e = tt
ticks_sorted i low (x ∷ es) e = go (ltb x.tick low) refl e (ticks_sorted (i + 1) x.tick es)
  where
    go : (t : Bool) → ltb x.tick low ≡ t → (cond t (refused_at 13 i) (ticks_answer (i + 1) x.tick es)).refusal ≡ 0 →
        ((ticks_answer (i + 1) x.tick es).refusal ≡ 0 → Sorted x.tick es) → (low ≤ x.tick) × Sorted x.tick es
    go true p h on = absurd (omega arith)
    go false p h on = (ltb-false x.tick low p, on h)

-- ---- the first of two answers that refuses
first_fine : (a b : Answer) → (first_refused a b).refusal ≡ 0 → (a.refusal ≡ 0) × (b.refusal ≡ 0)
first_fine a b e = go (eqb a.refusal 0) refl e
  where
    go : (t : Bool) → eqb a.refusal 0 ≡ t → (cond t b a).refusal ≡ 0 → (a.refusal ≡ 0) × (b.refusal ≡ 0)
    go true p h = (eqb-true a.refusal 0 p, h)
    go false p h = absurd (eqb-false a.refusal 0 p h)

module _ (b : List ℕ) (e : (file_answer b).refusal ≡ 0) where
  parts : ((header_answer b).refusal ≡ 0) × (((flows_answer 0 (flows_in b)).refusal ≡ 0) × ((ticks_answer 0 0 (events_in b)).refusal ≡ 0))
  unfolding file_answer
  parts =
      let h = first_fine (header_answer b) (first_refused (flows_answer 0 (flows_in b)) (ticks_answer 0 0 (events_in b))) e in
      (h.0, first_fine (flows_answer 0 (flows_in b)) (ticks_answer 0 0 (events_in b)) h.1)

  pub file_header : (header_answer b).refusal ≡ 0
  file_header = parts.0

  pub file_laid : Laid b
  file_laid = laid b file_header

  pub file_flows : (flows_answer 0 (flows_in b)).refusal ≡ 0
  file_flows = parts.1.0

  -- so setup accepts them, and what it makes is sound
  pub file_setup : (setup_answer (flows_in b) (terms_in b)).refusal ≡ 0
  file_setup = ap (λ (a : Answer). a.refusal) (judged b (header_fine b file_header)) ∙ file_flows

  pub file_ticks : (ticks_answer 0 0 (events_in b)).refusal ≡ 0
  file_ticks = parts.1.1

  pub file_sorted : Sorted 0 (events_in b)
  file_sorted = ticks_sorted 0 0 (events_in b) file_ticks

-- ---- the whole answer: an answer, a table and where the events stand are the file's
pub record Gives (b : List ℕ) (a : Answer) (T : Table) (p : Part) : Type 0 where
  pub answers : a ≡ file_answer b
  pub tables : T ≡ file_table b
  pub events : p ≡ file_events b

gives_refused : (b : List ℕ) (why : Refusal) (place : ℕ) → refused_at (number_of why) place ≡ file_answer b →
    Gives b (refused_at (number_of why) place) no_flows no_records
unfolding file_table file_events
gives_refused b why place e = record { answers = e; tables = rw (← e, number_some why); events = rw (← e, number_some why) }

-- the header's refusal
pub header_refused : (b : List ℕ) (why : Refusal) (place : ℕ) → refused_at (number_of why) place ≡ header_answer b →
    Gives b (refused_at (number_of why) place) no_flows no_records
unfolding file_answer
header_refused b why place e = gives_refused b why place (rw (← e, number_some why))

-- past the header come setup's refusals, then that of the ticks
module _ (b : List ℕ) (ok : header_answer b ≡ fine) where
  pub flows_refused : (why : Refusal) (place : ℕ) → refused_at (number_of why) place ≡ setup_answer (flows_in b) (terms_in b) →
      Gives b (refused_at (number_of why) place) no_flows no_records
  unfolding file_answer
  flows_refused why place e =
      let f = sym (e ∙ judged b ok) in
      gives_refused b why place (rw (ok, f, number_some why))

  module _ (flows : fine ≡ setup_answer (flows_in b) (terms_in b)) where
    accepted : flows_answer 0 (flows_in b) ≡ fine
    accepted = sym (flows ∙ judged b ok)

    pub ticks_refused : (why : Refusal) (place : ℕ) → refused_at (number_of why) place ≡ ticks_answer 0 0 (events_in b) →
        Gives b (refused_at (number_of why) place) no_flows no_records
    unfolding file_answer
    ticks_refused why place e = gives_refused b why place (rw (ok, accepted) e)

    pub file_fine : fine ≡ ticks_answer 0 0 (events_in b) → fine ≡ file_answer b
    unfolding file_answer
    file_fine e = rw (ok, accepted) e

    pub all_fine : fine ≡ ticks_answer 0 0 (events_in b) → Gives b fine (setup_table (flows_in b) (terms_in b)) (layout_in b).events
    unfolding file_table file_events setup_table
    all_fine e = let is = file_fine e in record { answers = is; tables = rw (← is, ← flows); events = rw (← is) }

-- ---- a reader that leaves the events alone: the header's refusal, or setup's answer and table
pub flows_none : (b : List ℕ) (why : Refusal) (place : ℕ) → refused_at (number_of why) place ≡ header_answer b →
    reply (refused_at (number_of why) place) (fresh_state no_flows) ≡ flows_reply b
unfolding flows_reply
flows_none b why place e = rw (← e, number_some why)

pub flows_some : (b : List ℕ) → header_answer b ≡ fine → setup_reply (flows_in b) (terms_in b) ≡ flows_reply b
unfolding flows_reply
flows_some b ok = rw ok

-- where the header has no fault, what it says of the tables
pub layout_is : (b : List ℕ) → header_answer b ≡ fine → header_layout b ≡ layout_in b
unfolding header_layout
layout_is b ok = rw ok
