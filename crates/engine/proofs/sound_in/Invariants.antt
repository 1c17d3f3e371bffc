-- The flows, and a flow's cells, that have been looked at have passed, and the bytes are those of the cells.
use Rattle.std.proofs.Common.{◌≡◌, ◌*◌, ◌≤◌, true, [], get_or, take}
use Rattle.drr.specs.State.{line_in, bytes_of}
use Rattle.drr.specs.Sound.{all, cellsb, flowb}
use Rattle.engine.proofs.sound_in.Given as goal

abbrev pub invariant-loop-f : goal.invariant-loop-f
invariant-loop-f l = all l.f (flowb l.table (line_in l.line)) ≡ true

abbrev pub invariant-loop-k : goal.invariant-loop-k
invariant-loop-k l =
    (all l.k (cellsb l.table (line_in l.line) l.f) ≡ true)
    × (l.bytes ≡ bytes_of (take l.k (get_or (line_in l.line).rows l.f [])))
    × (l.bytes ≤ l.k * 65535)
