use Rattle.std.proofs.Common.{◌≡◌, ◌*◌, ◌-◌, ◌≤◌, ℕ, List, length, take, drop, arith, rules, sym, ap, ◌∙◌, length-drop, Result, Err}
use Rattle.drr.specs.declared.Refused.{Refused}
use Rattle.drr.specs.Answers.{fine, refused_at, number_of, verdict_paper}
use Rattle.runfile.specs.declared.reader.Layout.{Layout}
use Rattle.runfile.specs.declared.reader.Contents.{Contents}
use Rattle.runfile.specs.File.{header_answer, header_layout, layout_in, event_count, event_offset, events_in, events_from, ticks_answer}
use Rattle.runfile.proofs.Files.{part_is, laid_fine, layout_is, header_refused, flows_refused, ticks_refused, all_fine}
use Rattle.runfile.proofs.reader.read.Goals as goal

-- the layout of a header that has no fault
laid : (b : List ℕ) (layout : Layout) → fine ≡ header_answer b → layout ≡ header_layout b → (header_answer b ≡ fine) × (layout ≡ layout_in b)
laid b layout ok is = (sym ok, is ∙ layout_is b (sym ok))

-- the events' numbers in the header of a file that has no fault there
module _ (b : List ℕ) (layout : Layout) (r : (header_answer b ≡ fine) × (layout ≡ layout_in b)) where
  count_is : layout.events.count ≡ event_count b
  count_is = ap (λ (x : Layout). x.events.count) r.1

  at_is : layout.events.at ≡ event_offset b
  at_is = ap (λ (x : Layout). x.events.at) r.1

  starts : layout.events.at ≤ length b
  starts = omega (arith, at_is, (laid_fine b r.0).events_inside)

  part_long : 8 * layout.events.count ≤ length (take (length b - layout.events.at) (drop layout.events.at b))
  part_long =
      omega (
        arith,
        count_is,
        (laid_fine b r.0).events_inside,
        ap length (part_is b layout.events.at (event_offset b) at_is),
        length-drop (event_offset b) b,
      )

  -- the events of that part are the file's
  order : ticks_answer 0 0 (events_from (take (length b - layout.events.at) (drop layout.events.at b)) 0 layout.events.count)
      ≡ ticks_answer 0 0 (events_in b)
  order = λ j. ticks_answer 0 0 (events_from (part_is b layout.events.at (event_offset b) at_is j) 0 (count_is j))

told : (r : Result Contents Refused) (e : Refused) → r ≡ Err e → verdict_paper r ≡ refused_at (number_of e.why) e.place
told r e is = ap verdict_paper is

pub returns-in_err-layout-clause-answer_value : goal.returns-in_err-layout-clause-answer_value
returns-in_err-layout-clause-answer_value c =
    let why = c.in_err-layout.field-0.0 in
    let is : c.from_residual.result ≡ Err (record { why = why; place = 0 }) = search rules in
    told _ _ is ∙ (header_refused c.args.file.now why 0 c.in_err-layout.ensures.answer_value).answers

pub returns-in_err-table-clause-answer_value : goal.returns-in_err-table-clause-answer_value
returns-in_err-table-clause-answer_value c =
    let fault = c.in_err-table.field-0.0 in
    let is : c.from_residual-in_err-table.result ≡ Err fault = search rules in
    let ok : header_answer c.args.file.now ≡ fine = sym c.in_ok-layout.ensures.answer_value in
    told _ _ is ∙ (flows_refused c.args.file.now ok fault.why fault.place c.in_err-table.ensures.answer_value).answers

pub returns-in_err-ticks-clause-answer_value : goal.returns-in_err-ticks-clause-answer_value
returns-in_err-ticks-clause-answer_value c =
    let fault = c.in_err-ticks.field-0.0 in
    let is : c.from_residual-in_err-ticks.result ≡ Err fault = search rules in
    let r = laid c.args.file.now _ c.in_ok-layout.ensures.answer_value c.in_ok-layout.ensures.layout_value in
    told _ _ is
    ∙ (ticks_refused c.args.file.now r.0 c.in_ok-table.ensures.answer_value fault.why fault.place (c.in_err-ticks.ensures ∙ order _ _ r)).answers

pub returns : goal.returns
returns c =
    let r = laid c.args.file.now _ c.in_ok-layout.ensures.answer_value c.in_ok-layout.ensures.layout_value in
    let g = all_fine c.args.file.now r.0 c.in_ok-table.ensures.answer_value (c.in_ok-ticks.ensures ∙ order _ _ r) in
    record {
      answer_value = g.answers;
      contents_value = (c.in_ok-table.ensures.table_value ∙ g.tables, ap (λ (x : Layout). x.events) r.1 ∙ g.events);
    }

pub flows_of-requires : goal.flows_of-requires
flows_of-requires c =
    let r = laid c.args.file.now _ c.in_ok-layout.ensures.answer_value c.in_ok-layout.ensures.layout_value in
    (laid_fine _ r.0, ap (λ (x : Layout). x.flows) r.1)

pub slice_bounds-ticks-count : goal.slice_bounds-ticks-count
slice_bounds-ticks-count c =
    starts _ _ (laid c.args.file.now _ c.in_ok-layout.ensures.answer_value c.in_ok-layout.ensures.layout_value)

pub slice_bounds-ticks-start : goal.slice_bounds-ticks-start
slice_bounds-ticks-start c =
    starts _ _ (laid c.args.file.now _ c.in_ok-layout.ensures.answer_value c.in_ok-layout.ensures.layout_value)

pub ticks-requires : goal.ticks-requires
ticks-requires c =
    let r = laid c.args.file.now _ c.in_ok-layout.ensures.answer_value c.in_ok-layout.ensures.layout_value in
    (part_long _ _ r, omega (arith, count_is _ _ r, (laid_fine _ r.0).events_few))
