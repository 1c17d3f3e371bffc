use Rattle.std.proofs.Common.{rules, Bool, ◌≤◌, ◌+◌, ◌/◌, ℕ, List, length, arith}
use Rattle.text.specs.Text.{titles_text, titles_within}
use Rattle.text.proofs.Texts.{puts_two, puts_as, room_then, unfilled, filled}
use Rattle.text.proofs.Rows.{later, titles_parts, titles_most}
use Rattle.text.proofs.titles_text.Goals as goal

-- where there is room
size : (l b : List ℕ) (timed : Bool) → length l + 6 ≤ length b / 30 → 0 + length (titles_text l timed) ≤ length b
size l b timed room = omega (arith, titles_most l timed)

pub returns-then-buf-sizes : goal.returns-then-buf-sizes
unfolding titles_within
returns-then-buf-sizes c =
    let l = c.args.sizes.now in
    let b = c.args.buf.now in
    let f = unfilled (length b / 30) (length l + 6) (titles_text l c.args.timed) b (omega arith) in
    record { value = f.0; buf_after = f.1 }

pub returns : goal.returns
unfolding titles_within
returns c =
    let l = c.args.sizes.now in
    let b = c.args.buf.now in
    let t = c.args.timed in
    let p = puts_as (titles_parts l t) (puts_two c.bytes.ensures c.later_titles.ensures) in
    let f = filled (length b / 30) (length l + 6) (titles_text l t) b _ _ (omega arith) (omega (arith, titles_most l t)) p.put in
    record { value = f.0; buf_after = search (rules, f.1) }

pub later_titles-requires : goal.later_titles-requires
later_titles-requires c =
    let l = c.args.sizes.now in
    let t = c.args.timed in
    room_then (titles_text l t) (later l t) (titles_parts l t) (size l c.args.buf.now t (omega arith)) c.bytes.ensures
