use Rattle.std.proofs.Common.{ℕ, length, replicate, arith, refl, sym, ap, ◌∙◌}
use Rattle.std.proofs.lemmas.List.{length-replicate}
use Rattle.drr.specs.Answers.{Answer}
use Rattle.text.specs.Text.{listing_text}
use Rattle.answers.proofs.Given.{given, run_short, run_fits, refusal_fits, listing_fits}
use Rattle.answers.proofs.Shown.{run_refusal, run_listing_lem}
use Rattle.answers.proofs.run_text.Goals as goal

pub returns-then-buf-lt-RUN_ROOM : goal.returns-then-buf-lt-RUN_ROOM
returns-then-buf-lt-RUN_ROOM c =
    let a = c.args in
    let g = given _ _ a.buf.now _ _ (run_short a.file.now (length a.buf.now) c.if-buf-lt-RUN_ROOM.true) (refl, refl) in
    record { value = g.0; buf_after = g.1.0; prefix_len = g.1.1 }

pub returns-in-Err : goal.returns-in-Err
returns-in-Err c =
    let a = c.args in
    let room = c.if-buf-lt-RUN_ROOM.false in
    let e = c.in-Err.ensures.result_value in
    let g = given _ _ a.buf.now _ _
    (refusal_fits _ _ _ (omega (arith, room))
    ∙ run_refusal a.file.now _ (omega (arith, length-replicate {A = ℕ} 6150 0)) _ _ e
    ∙ run_fits a.file.now (length a.buf.now) room)
    c.refusal_line.ensures in
    record { value = g.0; buf_after = g.1.0; prefix_len = g.1.1 }

pub returns-in-Ok : goal.returns-in-Ok
returns-in-Ok c =
    let a = c.args in
    let room = c.if-buf-lt-RUN_ROOM.false in
    let fine = ap (λ (a : Answer). a.refusal) (sym c.in-Ok.ensures.result_value) in
    let g = given _ _ a.buf.now _ _
    (listing_fits _ _ (omega (arith, room, c.run.auto.out, length-replicate {A = ℕ} 6150 0))
    ∙ ap listing_text c.run.ensures.out_after
    ∙ run_listing_lem a.file.now (replicate 6150 0) (omega (arith, length-replicate {A = ℕ} 6150 0)) fine
    ∙ run_fits a.file.now (length a.buf.now) room)
    (c.listing_text.ensures.value, c.listing_text.ensures.buf_after) in
    record { value = g.0; buf_after = g.1.0; prefix_len = g.1.1 }
