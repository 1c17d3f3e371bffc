use Rattle.std.proofs.Common.{◌≡◌, drop}
use Rattle.text.specs.Text.{timed_text}
use Rattle.text.proofs.Texts.{Left}
use Rattle.text.proofs.Out.timed.Given as goal

abbrev pub invariant-loop-n : goal.invariant-loop-n
invariant-loop-n l =
    (l.self.buf.ghost_name ≡ l.fn.self.buf.ghost_name)
    × Left l.fn.self.buf.now l.fn.self.at (timed_text l.list l.time) l.self.buf.now l.self.at (timed_text (drop l.n-index l.list) l.time)
