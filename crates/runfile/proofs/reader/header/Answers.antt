-- The tests, one after the other: each that was passed opens the definition by one case.
use Rattle.std.proofs.Common.{ℕ, ◌≡◌, ◌≤◌, ◌<◌, Bool, true, false, not, cond, ◌||◌, List, length, ltb, eqb, arith, sym, ap, ◌∙◌}
use mathlib.Core.Logic.{◌⊎◌, ⊎_elim}
use borrow.Author.Tests.{lt-ltb, le-ltb, eq-eqb, ne_eqb}
use Rattle.drr.specs.declared.Refusal.{Refusal}
use Rattle.drr.specs.declared.Refusal.TheVariants.{FlowCount, FileLength, OverheadRange, EventCount, TablePlace}
use Rattle.drr.specs.Limits.{most_flows, most_overhead, most_events}
use Rattle.drr.specs.Answers.{number_of, fine, refused_at}
use Rattle.drr.proofs.Papers.{number_some}
use Rattle.runfile.specs.declared.reader.Layout.{Layout}
use Rattle.runfile.specs.File.{header_answer, header_layout, header_size, most_bytes, stated_length, overhead_in, flow_count, event_count}
use Rattle.runfile.specs.File.{flow_offset, event_offset, layout_in, no_tables, tablesb}
use Rattle.scheduler.proofs.Setups.{count_out, count_in}
use Rattle.runfile.proofs.Files.{layout_is}
use Rattle.runfile.proofs.reader.header.Goals as goal

-- a refusal of the header has no tables
none : (b : List ℕ) (why : Refusal) → refused_at (number_of why) 0 ≡ header_answer b → no_tables ≡ header_layout b
unfolding header_layout
none b why e = rw (← e, number_some why)

-- the tests of a file's bytes, as they come out where they are passed
module _ (b : List ℕ) where
  abbrev size_out : Bool
  size_out = ltb (length b) header_size || ltb most_bytes (length b)

  abbrev tables_in : Bool
  tables_in = tablesb (flow_count b) (event_count b) (flow_offset b) (event_offset b) (length b)

  refused_1 : (length b < header_size) ⊎ ((header_size ≤ length b) × (most_bytes < length b)) → refused_at 9 0 ≡ header_answer b
  unfolding header_answer
  refused_1 out = ⊎_elim
      (λ short. simp (lt-ltb (length b) header_size short))
      (λ far. simp (le-ltb (length b) header_size far.0, lt-ltb most_bytes (length b) far.1))
      out

  size_in : header_size ≤ length b → length b ≤ most_bytes → size_out ≡ false
  size_in least most = rw (le-ltb (length b) header_size least, le-ltb most_bytes (length b) most)

  module _ (t1 : size_out ≡ false) where
    refused_2 : (stated_length b ≡ length b → ⊥) → refused_at 9 0 ≡ header_answer b
    unfolding header_answer
    refused_2 t = simp (t1, ne_eqb _ _ t)

    module _ (t2 : stated_length b ≡ length b) where
      refused_3 : most_overhead < overhead_in b → refused_at 10 0 ≡ header_answer b
      unfolding header_answer
      refused_3 t = simp (t1, eq-eqb _ _ t2, lt-ltb most_overhead (overhead_in b) t)

      module _ (t3 : overhead_in b ≤ most_overhead) where
        -- what is left where the first three tests were passed
        left_4 : header_answer b ≡
            cond (eqb (flow_count b) 0 || ltb most_flows (flow_count b)) (refused_at 5 0)
            (cond (ltb most_events (event_count b)) (refused_at 11 0)
            (cond (not tables_in) (refused_at 12 0) fine))
        unfolding header_answer
        left_4 = simp (t1, eq-eqb _ _ t2, le-ltb most_overhead (overhead_in b) t3)

        module _ (k : Layout) (is : k ≡ layout_in b) where
          flows : {v : Bool} → (eqb k.flows.count 0 || ltb most_flows k.flows.count) ≡ v →
              (eqb (flow_count b) 0 || ltb most_flows (flow_count b)) ≡ v
          flows h = ap (λ (x : Layout). eqb x.flows.count 0 || ltb most_flows x.flows.count) (sym is) ∙ h

          events : k.events.count ≡ event_count b
          events = ap (λ (x : Layout). x.events.count) is

          refused_4 : (eqb k.flows.count 0 || ltb most_flows k.flows.count) ≡ true → refused_at 5 0 ≡ header_answer b
          refused_4 t = sym (left_4 ∙ rw (flows t))

          module _ (t4 : (eqb k.flows.count 0 || ltb most_flows k.flows.count) ≡ false) where
            refused_5 : most_events < k.events.count → refused_at 11 0 ≡ header_answer b
            refused_5 t = sym (left_4 ∙ rw (flows t4, lt-ltb most_events (event_count b) (omega (arith, events, t))))

            -- past the first five
            left_6 : k.events.count ≤ most_events → {r v : Bool} →
                r ≡ tablesb k.flows.count k.events.count k.flows.at k.events.at (length b) → r ≡ v →
                header_answer b ≡ cond (not v) (refused_at 12 0) fine
            left_6 t5 {r} {v} told t =
                let e : tables_in ≡ v =
                ap (λ (x : Layout). tablesb x.flows.count x.events.count x.flows.at x.events.at (length b)) (sym is) ∙ sym told ∙ t in
                left_4 ∙ rw (flows t4, le-ltb most_events (event_count b) (omega (arith, events, t5)), e)

pub returns-then-size-lt-HEADER_SIZE : goal.returns-then-size-lt-HEADER_SIZE
returns-then-size-lt-HEADER_SIZE c =
    let e = refused_1 c.args.file.now c.then-size-lt-HEADER_SIZE.either in
    record { answer_value = e; layout_value = none _ FileLength e }

pub returns-then-le4-size : goal.returns-then-le4-size
returns-then-le4-size c =
    let size_2 = size_in _ c.if-size-lt-HEADER_SIZE.false c.if-size-gt-MOST_BYTES.false in
    let e = refused_2 _ size_2 (λ e. c.if-le4-size.true (c.le4.ensures.0 ∙ e)) in
    record { answer_value = e; layout_value = none _ FileLength e }

pub returns-then-le4 : goal.returns-then-le4
returns-then-le4 c =
    let size_3 = size_in _ c.if-size-lt-HEADER_SIZE.false c.if-size-gt-MOST_BYTES.false in
    let e = refused_3 _ size_3 (sym c.le4.ensures.0 ∙ c.if-le4-size.false) (omega (arith, c.le4-2.ensures.0, c.if-le4.true)) in
    record { answer_value = e; layout_value = none _ OverheadRange e }

pub returns-then-flows-eq0 : goal.returns-then-flows-eq0
returns-then-flows-eq0 c =
    let size_4 = size_in _ c.if-size-lt-HEADER_SIZE.false c.if-size-gt-MOST_BYTES.false in
    let e = refused_4 _ size_4 (sym c.le4.ensures.0 ∙ c.if-le4-size.false) (omega (arith, c.le4-2.ensures.0, c.if-le4.false))
    _ c.layout_of-layout.ensures.0 (count_out _ c.then-flows-eq0.either) in
    record { answer_value = e; layout_value = none _ FlowCount e }

pub returns-then-events-gt-MOST_EVENTS : goal.returns-then-events-gt-MOST_EVENTS
returns-then-events-gt-MOST_EVENTS c =
    let size_5 = size_in _ c.if-size-lt-HEADER_SIZE.false c.if-size-gt-MOST_BYTES.false in
    let e = refused_5 _ size_5 (sym c.le4.ensures.0 ∙ c.if-le4-size.false) (omega (arith, c.le4-2.ensures.0, c.if-le4.false))
    _ c.layout_of-layout.ensures.0 (count_in _ c.if-flows-eq0.false c.if-flows-gt-MOST_FLOWS.false) c.if-events-gt-MOST_EVENTS.true in
    record { answer_value = e; layout_value = none _ EventCount e }

pub returns-then-not-tables_ok : goal.returns-then-not-tables_ok
returns-then-not-tables_ok c =
    let size_6 = size_in _ c.if-size-lt-HEADER_SIZE.false c.if-size-gt-MOST_BYTES.false in
    let e = sym (left_6 _ size_6 (sym c.le4.ensures.0 ∙ c.if-le4-size.false) (omega (arith, c.le4-2.ensures.0, c.if-le4.false))
    _ c.layout_of-layout.ensures.0 (count_in _ c.if-flows-eq0.false c.if-flows-gt-MOST_FLOWS.false)
    c.if-events-gt-MOST_EVENTS.false c.tables_ok.ensures c.if-not-tables_ok.true) in
    record { answer_value = e; layout_value = none _ TablePlace e }

pub returns : goal.returns
returns c =
    let size_7 = size_in _ c.if-size-lt-HEADER_SIZE.false c.if-size-gt-MOST_BYTES.false in
    let ok = left_6 _ size_7 (sym c.le4.ensures.0 ∙ c.if-le4-size.false) (omega (arith, c.le4-2.ensures.0, c.if-le4.false))
    _ c.layout_of-layout.ensures.0 (count_in _ c.if-flows-eq0.false c.if-flows-gt-MOST_FLOWS.false)
    c.if-events-gt-MOST_EVENTS.false c.tables_ok.ensures c.if-not-tables_ok.false in
    record { answer_value = sym ok; layout_value = c.layout_of-layout.ensures.0 ∙ sym (layout_is c.args.file.now ok) }
