use Rattle.std.proofs.Common.{arith}
use Rattle.text.proofs.Words.{one_digit}
use Rattle.text.proofs.word_of.Goals as goal

pub loop-byte-preserved : goal.loop-byte-preserved
loop-byte-preserved c =
    let o = c.loop-byte in
    let digit = c.if-not-is_ascii_digit.ensures.cases in
    let most = c.if-n-gt-MOST_NUMBER.false in
    (one_digit c.args.word.now o.n o.byte-index _ c.loop-byte-test.true o.invariant.0 digit.0 digit.1 (omega arith) most, most)
