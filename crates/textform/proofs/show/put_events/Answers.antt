use Rattle.std.proofs.Common.{◌∙◌, sym, ap, length, ℕ, List, ◌*◌, arith}
use Rattle.std.proofs.Math.Seq.{length-take-le}
use Rattle.answers.proofs.Given.{as_text}
use Rattle.runfile.specs.File.{events_from}
use Rattle.runfile.proofs.Going.{events_length}
use Rattle.textform.specs.Made.{each}
use Rattle.textform.specs.Shown.{event_text}
use Rattle.textform.proofs.Records.{event_most, events_given, events_of, none_put, line_room, line_put, all_put, behind, behind_length}
use Rattle.textform.proofs.show.put_events.Goals as goal

pub loop-event-init : goal.loop-event-init
loop-event-init c =
    let is = c.into_iter-event-iterator.ensures.into_iter_gives in
    let t = c.args.t.now in
    let m = c.args.m in
    let rest = ap (λ s. s.rest.now) is ∙ c.chunks_exact-event-items.ensures.rest in
    let size = ap (λ s. s.size) is ∙ c.chunks_exact-event-items.ensures.size in
    let long = ap length rest ∙ length-take-le (8 * m) t c.requires.0 in
    let given = events_given c.into_iter-event-iterator.result m size long in
    let all = events_of t m c.requires.0 ∙ ap (λ (l : List ℕ). events_from l 0 m) (sym rest) in
    none_put event_most _ (events_from c.into_iter-event-iterator.result.rest.now 0 m) c.args.buf.now _ given (ap (each event_text) all)
    (omega (arith, events_length c.into_iter-event-iterator.result.rest.now 0 m, c.requires.2))

pub put_record-at-requires : goal.put_record-at-requires
put_record-at-requires c =
    omega (
      arith,
      line_room event_most c.loop-event.invariant c.in-Some.event c.next.new.self c.in-Some.ensures.steps,
      behind_length c.loop-event.buf c.loop-event.at,
    )

pub loop-event-preserved : goal.loop-event-preserved
loop-event-preserved c =
    line_put event_most c.loop-event.invariant c.in-Some.event c.next.new.self c.in-Some.ensures.steps _ _
    (as_text _ _ (behind c.loop-event.buf c.loop-event.at) _ _
    (λ i. event_text (record { tick = c.le4.ensures.0 i; flow = c.le2.ensures.0 i; length = c.le2-in-loop-event.ensures.0 i }))
    c.put_record-at.ensures)

pub returns : goal.returns
returns c = all_put event_most c.loop-event.invariant c.next.new.self c.in-None.ensures.steps
