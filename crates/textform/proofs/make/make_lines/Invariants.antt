use Rattle.textform.proofs.Ends.{Going}
use Rattle.textform.proofs.make.make_lines.Given as goal

abbrev pub invariant-loop-words : goal.invariant-loop-words
invariant-loop-words l = Going (goal.iterator-loop-words).next_gives l.words-iterator l.text l.line l.records
