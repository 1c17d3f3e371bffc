-- After i records they stand in the first i cells.
use Rattle.std.proofs.Common.{◌≡◌, replicate}
use lib.Seq.{paste}
use Rattle.drr.proofs.Tables.{none}
use Rattle.runfile.specs.File.{flows_from}
use Rattle.runfile.proofs.reader.records.Given as goal

abbrev pub invariant-loop-i : goal.invariant-loop-i
invariant-loop-i l = l.records ≡ paste (replicate 17 none) 0 (flows_from l.t 0 l.n) l.i
