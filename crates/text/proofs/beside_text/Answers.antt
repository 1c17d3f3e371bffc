use Rattle.std.proofs.Common.{◌+◌, ◌*◌, length, rules, arith}
use Rattle.text.specs.Text.{beside_text, beside_within}
use Rattle.text.proofs.Texts.{unfilled, filled}
use Rattle.text.proofs.Lines.{beside_most}
use Rattle.text.proofs.beside_text.Goals as goal

pub returns-then-buf-list : goal.returns-then-buf-list
unfolding beside_within
returns-then-buf-list c =
    let l = c.args.list.now in
    let w = c.args.beside.now in
    let b = c.args.buf.now in
    let f = unfilled (length b) (18 * length l + 21 * length w) (beside_text l w) b (omega arith) in
    record { value = f.0; buf_after = f.1 }

pub returns : goal.returns
unfolding beside_within
returns c =
    let l = c.args.list.now in
    let w = c.args.beside.now in
    let b = c.args.buf.now in
    let p = c.lines in
    let f = filled (length b) (18 * length l + 21 * length w) (beside_text l w) b p.new.self.buf.now p.new.self.at (omega arith)
    (omega (arith, beside_most l w)) p.ensures.put in
    record { value = f.0; buf_after = search (rules, f.1) }

pub lines-requires : goal.lines-requires
lines-requires c = omega (arith, beside_most c.args.list.now c.args.beside.now)
