use Rattle.std.proofs.Common.{◌≡◌, drop}
use Rattle.text.proofs.Texts.{Left}
use Rattle.text.proofs.Rows.{later}
use Rattle.text.proofs.Out.later_titles.Given as goal

abbrev pub invariant-loop-size : goal.invariant-loop-size
invariant-loop-size l =
    (l.self.buf.ghost_name ≡ l.fn.self.buf.ghost_name)
    × Left l.fn.self.buf.now l.fn.self.at (later l.sizes l.timed) l.self.buf.now l.self.at (later (drop l.size-index l.sizes) l.timed)
