use Rattle.std.proofs.Common.{◌≡◌, sym, refl, ap, List, ℕ, ◌+◌, ◌*◌, ◌≤◌, ◌∙◌, length, arith}
use Rattle.std.proofs.Math.Seq.{length-sets}
use Rattle.drr.specs.declared.Table.{Table}
use Rattle.drr.specs.Limits.{most_flows, most_events}
use Rattle.drr.specs.Answers.{Answer, fine}
use Rattle.runfile.specs.declared.reader.Part.{Part}
use Rattle.runfile.specs.File.{Laid, flow_count, file_answer, file_table, file_events, events_from}
use Rattle.runfile.proofs.Files.{file_laid}
use Rattle.text.specs.Text.{Put}
use Rattle.text.proofs.Texts.{Filled}
use Rattle.answers.specs.Printed.{overhead_room}
use Rattle.answers.proofs.Given.{Given, given, refusal_fits}
use Rattle.textform.specs.Made.{each}
use Rattle.textform.specs.Shown.{event_text, table_text, flow_line_room, event_line_room, shown_room, shown_within}
use Rattle.textform.proofs.Records.{behind, joined, behind_length, as_put, both_filled}
use Rattle.textform.proofs.Shown.{shown_short, shown_fits, shown_refusal, shown_lines}
use Rattle.textform.proofs.Shown.{table_count, part_count, part_at, table_lines_fit, event_lines_fit}
use Rattle.textform.proofs.show.show_text.Goals as goal

pub returns-then-buf-lt-SHOWN_ROOM : goal.returns-then-buf-lt-SHOWN_ROOM
returns-then-buf-lt-SHOWN_ROOM c =
    let buf = c.args.buf.now in
    let g = given _ _ buf _ _ (shown_short c.args.file.now (length buf) c.if-buf-lt-SHOWN_ROOM.true) (refl, refl) in
    record { value = g.0; buf_after = g.1.0; prefix_len = g.1.1 }

pub returns-in-Err : goal.returns-in-Err
returns-in-Err c =
    let file = c.args.file.now in
    let buf = c.args.buf.now in
    let room : shown_room ≤ length buf = c.if-buf-lt-SHOWN_ROOM.false in
    let fault = c.in-Err.fault in
    let g = given _ _ buf _ _
    (refusal_fits _ _ _ (omega (arith, room)) ∙ shown_refusal file fault.why fault.place c.in-Err.ensures.answer_value ∙ shown_fits file (length buf) room)
    c.refusal_line.ensures in
    record { value = g.0; buf_after = g.1.0; prefix_len = g.1.1 }

-- a file without fault, its table and where its events are
module _
    (file buf : List ℕ) (T : Table) (p : Part) (room : shown_room ≤ length buf) (answer : fine ≡ file_answer file) (held : (T ≡ file_table file) × (p ≡ file_events file)) where
  ok : (file_answer file).refusal ≡ 0
  ok = ap (λ (a : Answer). a.refusal) (sym answer)

  lies : Laid file
  lies = file_laid file ok

  flows : T.n ≡ flow_count file
  flows = table_count file ok T p held.0 held.1

  starts : p.at ≤ length file
  starts = omega (arith, part_at file ok T p held.0 held.1, lies.events_inside)

  table_in_bounds : (T.n ≤ most_flows) × (overhead_room + flow_line_room * T.n ≤ length buf)
  table_in_bounds = (omega (arith, flows, lies.flows_few), omega (arith, flows, lies.flows_few, room))

  abbrev table_lines : List ℕ
  table_lines = table_text T

  table_fits : length table_lines ≤ overhead_room + flow_line_room * most_flows
  table_fits = table_lines_fit file ok T p held.0 held.1

  abbrev event_lines : List ℕ
  event_lines = each event_text (events_from (behind file p.at) 0 p.count)

  both_fit : length table_lines + length event_lines ≤ length buf
  both_fit = omega (arith, room, table_fits, event_lines_fit file ok T p held.0 held.1)

  -- the table is shown
  module _ (begun : List ℕ) (size : ℕ) (first : Filled table_lines buf begun size) where
    put : Put buf 0 table_lines begun size
    put = as_put table_lines buf begun size (omega (arith, table_fits, room)) first

    same : length begun ≡ length buf
    same = ap length put.0 ∙ length-sets buf 0 table_lines

    events_in_bounds : (8 * p.count ≤ length (behind file p.at)) × (p.count ≤ most_events)
        × (event_line_room * p.count ≤ length (behind begun size))
    events_in_bounds =
        let many = part_count file ok T p held.0 held.1 in
        let at = part_at file ok T p held.0 held.1 in (
          omega (arith, many, at, lies.events_inside, behind_length file p.at),
          omega (arith, many, lies.events_few),
          omega (arith, many, lies.events_few, put.1, same, table_fits, room, behind_length begun size),
        )

    -- and the events behind it
    whole : (part : List ℕ) (more : ℕ) → Filled event_lines (behind begun size) part more →
        Given (shown_within file (length buf)) buf (joined begun size part) (size + more)
    whole part more second =
        given _ _ buf _ _ (shown_lines file ok T p held.0 held.1 ∙ shown_fits file (length buf) room)
        (both_filled table_lines event_lines buf begun part size more both_fit put second)

pub returns-in-Ok : goal.returns-in-Ok
returns-in-Ok c =
    let r = c.in-Ok in
    let g = whole c.args.file.now c.args.buf.now r.read.table r.read.events c.if-buf-lt-SHOWN_ROOM.false r.ensures.answer_value r.ensures.contents_value _ _ c.put_table-size.ensures _ _ c.put_events.ensures in
    record { value = g.0; buf_after = g.1.0; prefix_len = g.1.1 }

pub put_table-size-requires : goal.put_table-size-requires
put_table-size-requires c =
    let r = c.in-Ok in
    table_in_bounds c.args.file.now c.args.buf.now r.read.table r.read.events c.if-buf-lt-SHOWN_ROOM.false r.ensures.answer_value r.ensures.contents_value

pub slice_bounds-put_events-count : goal.slice_bounds-put_events-count
slice_bounds-put_events-count c =
    let r = c.in-Ok in
    starts c.args.file.now c.args.buf.now r.read.table r.read.events c.if-buf-lt-SHOWN_ROOM.false r.ensures.answer_value r.ensures.contents_value

pub slice_bounds-put_events-start : goal.slice_bounds-put_events-start
slice_bounds-put_events-start c =
    let r = c.in-Ok in
    starts c.args.file.now c.args.buf.now r.read.table r.read.events c.if-buf-lt-SHOWN_ROOM.false r.ensures.answer_value r.ensures.contents_value

pub put_events-requires : goal.put_events-requires
put_events-requires c =
    let r = c.in-Ok in
    events_in_bounds c.args.file.now c.args.buf.now r.read.table r.read.events c.if-buf-lt-SHOWN_ROOM.false r.ensures.answer_value r.ensures.contents_value _ _ c.put_table-size.ensures
