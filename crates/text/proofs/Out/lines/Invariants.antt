use Rattle.std.specs.Prelude.{◌≡◌}
use Rattle.std.specs.Slice.Iter.{chunks_exact_rest, chunks_exact_size}
use Rattle.text.specs.Text.{beside_text}
use Rattle.text.proofs.Texts.{Left}
use Rattle.text.proofs.Out.lines.Given as goal

-- the lines that are to come, and what is left to stand beside them
abbrev pub invariant-loop-line : goal.invariant-loop-line
invariant-loop-line l = record {
  same_buffer : l.self.buf.ghost_name ≡ l.fn.self.buf.ghost_name;
  left : Left l.fn.self.buf.now l.fn.self.at (beside_text l.list l.beside) l.self.buf.now l.self.at
      (beside_text (chunks_exact_rest l.line-iterator) l.left);
  six : chunks_exact_size l.line-iterator ≡ 6;
}
