use Rattle.std.proofs.Common.{◌≡◌, ◌++◌, map, take, drop}
use Rattle.text.specs.Text.{parted_byte}
use Rattle.text.proofs.part_by.Given as goal

abbrev pub invariant-loop-byte : goal.invariant-loop-byte
invariant-loop-byte l = l.text ≡ map (parted_byte l.parting) (take l.byte-index l.fn.text) ++ drop l.byte-index l.fn.text
