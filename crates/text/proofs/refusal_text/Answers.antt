use Rattle.std.proofs.Common.{rules, ◌≤◌, ◌+◌, ℕ, List, [], ◌∷◌, length, refl, arith}
use Rattle.text.specs.Text.{fields_text, refusal_text, refusal_within}
use Rattle.text.proofs.Texts.{puts_two, room_then, unfilled, filled}
use Rattle.text.proofs.Lines.{fields_most}
use Rattle.text.proofs.refusal_text.Goals as goal

-- where there is room
size : (number place : ℕ) (b : List ℕ) → 44 ≤ length b → 0 + length (refusal_text number place) ≤ length b
size number place b room = omega (arith, fields_most (number ∷ place ∷ []))

pub returns-then-buf-lt44 : goal.returns-then-buf-lt44
unfolding refusal_within
returns-then-buf-lt44 c =
    let a = c.args in
    let f = unfilled (length a.buf.now) 44 (refusal_text a.number a.place) a.buf.now c.if-buf-lt44.true in
    record { value = f.0; buf_after = f.1 }

pub returns : goal.returns
unfolding refusal_within
returns c =
    let a = c.args in
    let b = a.buf.now in
    let room = c.if-buf-lt44.false in
    let p = puts_two c.byte.ensures c.fields.ensures in
    let f = filled (length b) 44 (refusal_text a.number a.place) b _ _ room (omega (arith, size a.number a.place b room)) p.put in
    record { value = f.0; buf_after = search (rules, f.1) }

pub fields-requires : goal.fields-requires
fields-requires c =
    let a = c.args in
    room_then (refusal_text a.number a.place) (fields_text (a.number ∷ a.place ∷ [])) refl
    (size a.number a.place a.buf.now c.if-buf-lt44.false) c.byte.ensures
