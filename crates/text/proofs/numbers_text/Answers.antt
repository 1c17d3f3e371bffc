use Rattle.std.proofs.Common.{rules, ◌≤◌, ◌+◌, ◌/◌, ℕ, List, length, ap, arith, length-append}
use Rattle.text.specs.Text.{decimal, fields_text, numbers_text, numbers_within}
use Rattle.text.proofs.Texts.{puts_two, puts_as, room_then, unfilled, filled}
use Rattle.text.proofs.Lines.{numbers_most, no_number}
use Rattle.text.proofs.numbers_text.Goals as goal

-- where there is room
size : (l b : List ℕ) → length l ≤ length b / 21 → 0 + length (numbers_text l) ≤ length b
size l b room = omega (arith, numbers_most l)

pub returns-then-buf-list : goal.returns-then-buf-list
unfolding numbers_within
returns-then-buf-list c =
    let l = c.args.list.now in
    let b = c.args.buf.now in
    let f = unfilled (length b / 21) (length l) (numbers_text l) b c.if-buf-list.true in
    record { value = f.0; buf_after = f.1 }

pub returns-in_default : goal.returns-in_default
unfolding numbers_within
returns-in_default c =
    let l = c.args.list.now in
    let b = c.args.buf.now in
    let f = filled (length b / 21) (length l) (numbers_text l) b b 0 c.if-buf-list.false (omega (arith, numbers_most l))
    (no_number l b c.in_default.ensures.cases) in
    record { value = f.0; buf_after = f.1 }

pub returns : goal.returns
unfolding numbers_within
returns c =
    let l = c.args.list.now in
    let b = c.args.buf.now in
    let p = puts_as (ap numbers_text c.in-Some.ensures.cases.0) (puts_two c.number.ensures c.fields.ensures) in
    let f = filled (length b / 21) (length l) (numbers_text l) b _ _ c.if-buf-list.false (omega (arith, numbers_most l)) p.put in
    record { value = f.0; buf_after = search (rules, f.1) }

pub number-requires : goal.number-requires
number-requires c =
    let l = c.args.list.now in
    let s = c.in-Some in
    omega (
      arith,
      size l c.args.buf.now c.if-buf-list.false,
      ap (λ (k : List ℕ). length (numbers_text k)) s.ensures.cases.0,
      length-append (decimal s.first.now) (fields_text s.others.now),
    )

pub fields-requires : goal.fields-requires
fields-requires c =
    let l = c.args.list.now in
    let s = c.in-Some in
    room_then (numbers_text l) (fields_text s.others.now) (ap numbers_text s.ensures.cases.0)
    (size l c.args.buf.now c.if-buf-list.false) c.number.ensures
