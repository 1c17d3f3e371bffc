use Rattle.std.proofs.Common.{◌≡◌, ◌≤◌, drop}
use Rattle.text.specs.Text.{most_number, read_on, word_of}
use Rattle.text.proofs.word_of.Given as goal

-- the bytes read gave n, and the others go on from there
abbrev pub invariant-loop-byte : goal.invariant-loop-byte
invariant-loop-byte l = (read_on l.n (drop l.byte-index l.word) ≡ word_of l.word) × (l.n ≤ most_number)
