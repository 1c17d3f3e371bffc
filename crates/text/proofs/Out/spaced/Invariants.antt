use Rattle.std.proofs.Common.{◌≡◌, drop}
use Rattle.text.specs.Text.{spaced_text}
use Rattle.text.proofs.Texts.{Left}
use Rattle.text.proofs.Out.spaced.Given as goal

abbrev pub invariant-loop-field : goal.invariant-loop-field
invariant-loop-field l =
    (l.self.buf.ghost_name ≡ l.fn.self.buf.ghost_name)
    × Left l.fn.self.buf.now l.fn.self.at (spaced_text l.fields) l.self.buf.now l.self.at (spaced_text (drop l.field-index l.fields))
