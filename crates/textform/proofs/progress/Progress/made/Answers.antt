use Rattle.std.proofs.Common.{refl, ap, ◌∙◌, ◌+◌, ◌*◌, ◌++◌, arith}
use Rattle.std.proofs.lemmas.List.Edits.{sets}
use Rattle.runfile.specs.File.{header_size}
use Rattle.textform.specs.Made.{bytes2, bytes4}
use Rattle.textform.proofs.Ends.{whole}
use Rattle.textform.proofs.Steps.{written2, written4, then_put}
use Rattle.textform.proofs.progress.Progress.made.Goals as goal

-- the header's six numbers, one behind the other
pub returns : goal.returns
returns c d k =
    let s = c.args.self in
    let n = s.flows in
    let e = header_size + 8 * n in
    let z = e + 8 * s.events in
    let o = c.unwrap_or-overhead.result in
    let u1 = bytes2 n in
    let u2 = u1 ++ bytes2 s.events in
    let u3 = u2 ++ bytes4 header_size in
    let u4 = u3 ++ bytes4 e in
    let u5 = u4 ++ bytes4 z in
    let few = s.flows_fit in
    let fewer = s.events_fit in
    whole s o _ c.unwrap_or-overhead.ensures
    (then_put s.file u5 (bytes4 o) _ _ 0 16 refl
    (then_put s.file u4 (bytes4 z) _ _ 0 12 refl
    (then_put s.file u3 (bytes4 e) _ _ 0 8 refl
    (then_put s.file u2 (bytes4 header_size) _ _ 0 4 refl
    (then_put s.file u1 (bytes2 s.events) _ _ 0 2 refl
    (c.put.ensures ∙ ap (sets s.file 0) (c.to_le_bytes.ensures ∙ written2 n (omega (arith, few))))
    (c.put-2.ensures ∙ ap (sets c.put.new.buf 2) (c.to_le_bytes-2.ensures ∙ written2 s.events (omega (arith, fewer)))))
    (c.put-3.ensures ∙ ap (sets c.put-2.new.buf 4) (c.to_le_bytes-3.ensures ∙ written4 header_size (omega arith))))
    (c.put-4.ensures ∙ ap (sets c.put-3.new.buf 8) (c.to_le_bytes-4.ensures ∙ written4 e (omega (arith, few)))))
    (c.put-5.ensures ∙ ap (sets c.put-4.new.buf 12) (c.to_le_bytes-5.ensures ∙ written4 z (omega (arith, few, fewer)))))
    (c.put-6.ensures ∙ ap (sets c.put-5.new.buf 16) (c.to_le_bytes-6.ensures ∙ written4 o c.unwrap_or-overhead.type_inv)))
    d k
