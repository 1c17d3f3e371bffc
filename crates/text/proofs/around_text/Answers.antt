use Rattle.std.proofs.Common.{rules, ◌≤◌, ◌+◌, ℕ, List, ◌++◌, length, refl, append_assoc, arith, length-append}
use Rattle.text.specs.Text.{decimal, around, around_within}
use Rattle.text.proofs.Texts.{decimal_most, puts_two, room_then, unfilled, filled}
use Rattle.text.proofs.around_text.Goals as goal

-- where there is room
size : (u v b : List ℕ) (n : ℕ) → length u + 20 + length v ≤ length b → 0 + length (around u n v) ≤ length b
size u v b n room = omega (arith, length-append (u ++ decimal n) v, length-append u (decimal n), decimal_most n)

pub returns-then-buf-front : goal.returns-then-buf-front
unfolding around_within
returns-then-buf-front c =
    let a = c.args in
    let f = unfilled (length a.buf.now) (length a.front.now + 20 + length a.back.now)
    (around a.front.now a.n a.back.now) a.buf.now (omega arith) in
    record { value = f.0; buf_after = f.1 }

pub returns : goal.returns
unfolding around_within
returns c =
    let a = c.args in
    let u = a.front.now in
    let v = a.back.now in
    let b = a.buf.now in
    let room : length u + 20 + length v ≤ length b = omega arith in
    let p = puts_two (puts_two c.bytes.ensures c.number.ensures) c.bytes-2.ensures in
    let f = filled (length b) (length u + 20 + length v) (around u a.n v) b _ _ room (omega (arith, size u v b a.n room)) p.put in
    record { value = f.0; buf_after = search (rules, f.1) }

pub number-requires : goal.number-requires
number-requires c =
    let a = c.args in
    let u = a.front.now in
    let v = a.back.now in
    omega (
      arith,
      room_then (around u a.n v) (decimal a.n ++ v) (append_assoc u (decimal a.n) v) (size u v a.buf.now a.n (omega arith)) c.bytes.ensures,
      length-append (decimal a.n) v,
    )

pub bytes-requires-2 : goal.bytes-requires-2
bytes-requires-2 c =
    let a = c.args in
    let u = a.front.now in
    let v = a.back.now in
    room_then (around u a.n v) v refl (size u v a.buf.now a.n (omega arith)) (puts_two c.bytes.ensures c.number.ensures)
