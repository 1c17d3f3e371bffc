use Rattle.answers.specs.Printed.{figures_text_within}
use Rattle.std.proofs.Common.{◌≡◌, [], length, arith, refl, sym, ap, subst, ◌∙◌}
use Rattle.drr.specs.Facts.{SoundState}
use Rattle.drr.specs.Answers.{Answer, Reply, verdict_paper}
use Rattle.drr.proofs.Facts.{of_sound}
use Rattle.answers.proofs.Given.{given, figures_short, figures_many, figures_fit, refusal_fits}
use Rattle.answers.proofs.FlowLines.{flows_sound, figures_refusal, figures_lines}
use Rattle.answers.proofs.figures_text.Goals as goal
use Rattle.answers.proofs.figures_text.Goals.{then-buf-lt-FIGURES_ROOM-via-then-buf-lt-FIGURES_ROOM, then-buf-lt-FIGURES_ROOM-via-else-buf-lt-FIGURES_ROOM+then-sizes-gt-MOST_SIZES}

pub returns-then-buf-lt-FIGURES_ROOM : goal.returns-then-buf-lt-FIGURES_ROOM
returns-then-buf-lt-FIGURES_ROOM c =
    let a = c.args in
    let none : [] ≡ figures_text_within a.file.now a.sizes.now a.dress (length a.buf.now) = elim c.then-buf-lt-FIGURES_ROOM.branch [
      | then-buf-lt-FIGURES_ROOM-via-then-buf-lt-FIGURES_ROOM w ↦
          figures_short a.file.now a.sizes.now a.dress (length a.buf.now) w.if-buf-lt-FIGURES_ROOM.true
      | then-buf-lt-FIGURES_ROOM-via-else-buf-lt-FIGURES_ROOM+then-sizes-gt-MOST_SIZES w ↦
          figures_many a.file.now a.sizes.now a.dress (length a.buf.now) w.if-buf-lt-FIGURES_ROOM.false w.if-sizes-gt-MOST_SIZES.true
    ] in
    let g = given _ _ a.buf.now _ _ none (refl, refl) in
    record { value = g.0; buf_after = g.1.0; prefix_len = g.1.1 }

pub returns-in-Err : goal.returns-in-Err
returns-in-Err c =
    let a = c.args in
    let room = c.if-buf-lt-FIGURES_ROOM.false in
    let answered = ap (λ (r : Reply). r.answer) c.read_flows-made.ensures in
    let e = sym (ap verdict_paper c.in-Err.is) ∙ answered in
    let g = given _ _ a.buf.now _ _
    (refusal_fits _ _ _ (omega (arith, room)) ∙ figures_refusal a.file.now a.sizes.now a.dress _ _ e
    ∙ figures_fit a.file.now a.sizes.now a.dress (length a.buf.now) room c.if-sizes-gt-MOST_SIZES.false)
    c.refusal_line.ensures in
    record { value = g.0; buf_after = g.1.0; prefix_len = g.1.1 }

pub returns-in-Ok : goal.returns-in-Ok
returns-in-Ok c =
    let a = c.args in
    let room = c.if-buf-lt-FIGURES_ROOM.false in
    let answered = ap (λ (r : Reply). r.answer) c.read_flows-made.ensures in
    let stated = ap (λ (r : Reply). r.state) c.read_flows-made.ensures in
    let fine = ap (λ (x : Answer). x.refusal) (sym answered ∙ ap verdict_paper c.in-Ok.is) in
    let g = given _ _ a.buf.now _ _
    (figures_lines a.file.now a.sizes.now a.dress _ fine stated
    ∙ figures_fit a.file.now a.sizes.now a.dress (length a.buf.now) room c.if-sizes-gt-MOST_SIZES.false)
    c.put.ensures in
    record { value = g.0; buf_after = g.1.0; prefix_len = g.1.1 }

pub invariant_of-put : goal.invariant_of-put
invariant_of-put c =
    let is = ap (λ (r : Reply). r.state) c.read_flows-made.ensures in
    let sound = subst SoundState (sym is) (flows_sound c.args.file.now) in
    record { sound = of_sound _ _ sound; flows_few = sound.flows_few; sizes_few = c.if-sizes-gt-MOST_SIZES.false }
