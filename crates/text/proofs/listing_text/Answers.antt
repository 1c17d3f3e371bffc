use Rattle.std.proofs.Common.{rules, ◌/◌, [], length, arith}
use Rattle.text.specs.Text.{listing_text, listing_within}
use Rattle.text.proofs.Texts.{unfilled, filled}
use Rattle.text.proofs.Lines.{beside_most}
use Rattle.text.proofs.listing_text.Goals as goal

pub returns-then-buf-list : goal.returns-then-buf-list
unfolding listing_within
returns-then-buf-list c =
    let l = c.args.list.now in
    let b = c.args.buf.now in
    let f = unfilled (length b / 18) (length l) (listing_text l) b c.if-buf-list.true in
    record { value = f.0; buf_after = f.1 }

pub returns : goal.returns
unfolding listing_within
returns c =
    let l = c.args.list.now in
    let b = c.args.buf.now in
    let p = c.lines in
    let f = filled (length b / 18) (length l) (listing_text l) b p.new.self.buf.now p.new.self.at c.if-buf-list.false
    (omega (arith, beside_most l [])) p.ensures.put in
    record { value = f.0; buf_after = search (rules, f.1) }

pub lines-requires : goal.lines-requires
lines-requires c = omega (arith, beside_most c.args.list.now [])
