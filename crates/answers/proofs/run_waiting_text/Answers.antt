use Rattle.std.proofs.Common.{ℕ, length, arith, refl, sym, ap, ◌∙◌}
use Rattle.std.proofs.lemmas.List.{length-replicate}
use Rattle.drr.specs.Answers.{Answer}
use Rattle.text.specs.Text.{beside_text}
use Rattle.answers.proofs.Given.{given, waiting_short, waiting_fits, refusal_fits, beside_fits}
use Rattle.answers.proofs.Shown.{waiting_refusal, waiting_listing}
use Rattle.answers.proofs.run_waiting_text.Goals as goal

pub returns-then-buf-lt-WAITING_ROOM : goal.returns-then-buf-lt-WAITING_ROOM
returns-then-buf-lt-WAITING_ROOM c =
    let a = c.args in
    let g = given _ _ a.buf.now _ _ (waiting_short a.file.now (length a.buf.now) c.if-buf-lt-WAITING_ROOM.true) (refl, refl) in
    record { value = g.0; buf_after = g.1.0; prefix_len = g.1.1 }

pub returns-in-Err : goal.returns-in-Err
returns-in-Err c =
    let a = c.args in
    let room = c.if-buf-lt-WAITING_ROOM.false in
    let e = c.in-Err.ensures.result_value in
    let g = given _ _ a.buf.now _ _
    (refusal_fits _ _ _ (omega (arith, room))
    ∙ waiting_refusal a.file.now _ (omega (arith, length-replicate {A = ℕ} 6150 0, length-replicate {A = ℕ} 1024 0)) _ _ e
    ∙ waiting_fits a.file.now (length a.buf.now) room)
    c.refusal_line.ensures in
    record { value = g.0; buf_after = g.1.0; prefix_len = g.1.1 }

pub returns-in-Ok : goal.returns-in-Ok
returns-in-Ok c =
    let a = c.args in
    let room = c.if-buf-lt-WAITING_ROOM.false in
    let r = c.run_waiting in
    let fine = ap (λ (a : Answer). a.refusal) (sym c.in-Ok.ensures.result_value) in
    let g = given _ _ a.buf.now _ _
    (beside_fits _ _ _
    (omega (arith, room, r.auto.out, r.auto.beside, length-replicate {A = ℕ} 6150 0, length-replicate {A = ℕ} 1024 0))
    ∙ (λ i. beside_text (r.ensures.out_after i) (r.ensures.beside_after i))
    ∙ waiting_listing a.file.now _ (omega (arith, length-replicate {A = ℕ} 6150 0, length-replicate {A = ℕ} 1024 0)) fine _ _
    ∙ waiting_fits a.file.now (length a.buf.now) room)
    (c.beside_text.ensures.value, c.beside_text.ensures.buf_after) in
    record { value = g.0; buf_after = g.1.0; prefix_len = g.1.1 }
