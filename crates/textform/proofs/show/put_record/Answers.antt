use Rattle.std.proofs.Common.{ap, List, ℕ, ◌++◌, length, drop}
use Rattle.textform.proofs.Records.{line_filled}
use Rattle.textform.proofs.show.put_record.Goals as goal

-- the word, and the numbers behind it
pub returns : goal.returns
returns c =
    let b = c.args.buf.now in
    let w = c.args.word.now in
    let e = c.numbers_text.ensures in
    line_filled w c.args.numbers.now b _ _ _ c.requires (ap (λ (l : List ℕ). l ++ drop (length w) b) c.copy_from_slice.ensures.after)
    (e.value, e.buf_after)
