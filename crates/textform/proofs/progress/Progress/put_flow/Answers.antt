use Rattle.std.proofs.Common.{refl, ap, ◌∙◌, ◌+◌, ◌*◌}
use Rattle.std.proofs.lemmas.List.Edits.{sets}
use Rattle.runfile.specs.File.{header_size}
use Rattle.textform.specs.Made.{bytes4}
use Rattle.textform.proofs.Steps.{written4, then_put, one_flow}
use Rattle.textform.proofs.progress.Progress.put_flow.Goals as goal

pub returns : goal.returns
returns c d k =
    let s = c.args.self.now in
    let at = header_size + 8 * s.flows in
    let q = c.to_le_bytes.ensures ∙ written4 c.args.quantum c.ranges.quantum.fits in
    let l = c.to_le_bytes-2.ensures ∙ written4 c.args.maximum c.ranges.maximum.fits in
    one_flow s _ d k refl c.args.quantum c.args.maximum c.if-self-gt0.false c.if-self-ge-MOST_FLOWS.false
    (then_put s.file (bytes4 c.args.quantum) (bytes4 c.args.maximum) _ _ at (at + 4) refl
    (c.put.ensures ∙ ap (sets s.file at) q) (c.put-2.ensures ∙ ap (sets c.put.new.buf (at + 4)) l))
    refl refl refl
