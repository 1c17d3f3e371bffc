use Rattle.std.proofs.Common.{◌≡◌}
use Rattle.std.proofs.Math.Seq.{paste}
use Rattle.figures.specs.Answers.{owed_each}
use Rattle.figures.proofs.all_figures.Given as goal

-- behind the first numbers stand what is owed of the sizes so far
abbrev pub invariant-loop-i : goal.invariant-loop-i
invariant-loop-i l = l.out ≡ paste l.initial.out 5 (owed_each l.s l.flow l.sizes) l.i
