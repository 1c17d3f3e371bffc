use Rattle.std.proofs.Common.{refl, ap, ◌∙◌, ◌+◌, ◌*◌, ◌++◌}
use Rattle.std.proofs.lemmas.List.Edits.{sets}
use Rattle.runfile.specs.File.{header_size}
use Rattle.textform.specs.Made.{bytes2, bytes4}
use Rattle.textform.proofs.Steps.{written2, written4, then_put, one_event}
use Rattle.textform.proofs.progress.Progress.put_event.Goals as goal

pub returns : goal.returns
returns c d k =
    let s = c.args.self.now in
    let at = header_size + 8 * s.flows + 8 * s.events in
    let t = bytes4 c.args.tick in
    let f = bytes2 c.args.flow in
    let tick = c.to_le_bytes.ensures ∙ written4 c.args.tick c.ranges.tick.fits in
    let flow = c.to_le_bytes-2.ensures ∙ written2 c.args.flow c.ranges.flow.fits in
    let size = c.to_le_bytes-3.ensures ∙ written2 c.args.size c.ranges.size.fits in
    one_event s _ d k refl c.args.tick c.args.flow c.args.size c.if-self-eq0.false c.if-self-ge-MOST_EVENTS.false c.if-tick-self.false
    (then_put s.file (t ++ f) (bytes2 c.args.size) _ _ at (at + 6) refl
    (then_put s.file t f _ _ at (at + 4) refl
    (c.put.ensures ∙ ap (sets s.file at) tick) (c.put-2.ensures ∙ ap (sets c.put.new.buf (at + 4)) flow))
    (c.put-3.ensures ∙ ap (sets c.put-2.new.buf (at + 6)) size))
    refl refl refl
