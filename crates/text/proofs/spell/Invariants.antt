use Rattle.std.proofs.Common.{◌≡◌, ◌++◌, length, drop}
use Rattle.io.specs.Digits.{last_digits}
use Rattle.text.proofs.spell.Given as goal

-- the digits that are left, before those that are written, give the whole number's
abbrev pub invariant-loop-i : goal.invariant-loop-i
invariant-loop-i l = last_digits 10 l.i l.rest ++ drop l.i l.part ≡ last_digits 10 (length l.fn.part) l.n
