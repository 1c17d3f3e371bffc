use Rattle.std.proofs.Common.{◌≡◌, ◌+◌, ◌≤◌, drop}
use Rattle.textform.specs.Made.{newlines}
use Rattle.textform.proofs.make.newlines.Given as goal

-- those of the bytes read, with those of the others, are all
abbrev pub invariant-loop-byte : goal.invariant-loop-byte
invariant-loop-byte l = (l.n + newlines (drop l.byte-index l.text) ≡ newlines l.text) × (l.n ≤ l.byte-index)
