use Rattle.std.proofs.Common.{rules, ◌+◌, ◌/◌, length, arith}
use Rattle.text.specs.Text.{timed_text, timed_within}
use Rattle.text.proofs.Texts.{unfilled, filled}
use Rattle.text.proofs.Rows.{timed_most}
use Rattle.text.proofs.timed_text.Goals as goal

pub returns-then-buf-list : goal.returns-then-buf-list
unfolding timed_within
returns-then-buf-list c =
    let a = c.args in
    let l = a.list.now in
    let b = a.buf.now in
    let f = unfilled (length b / 30) (length l + 1) (timed_text l a.time) b (omega (arith, c.if-buf-list.true)) in
    record { value = f.0; buf_after = f.1 }

pub returns : goal.returns
unfolding timed_within
returns c =
    let a = c.args in
    let l = a.list.now in
    let b = a.buf.now in
    let p = c.timed in
    let f = filled (length b / 30) (length l + 1) (timed_text l a.time) b p.new.self.buf.now p.new.self.at
    (omega (arith, c.if-buf-list.false)) (omega (arith, c.if-buf-list.false, timed_most l a.time)) p.ensures.put in
    record { value = f.0; buf_after = search (rules, f.1) }

pub timed-requires : goal.timed-requires
timed-requires c = omega (arith, timed_most c.args.list.now c.args.time)
