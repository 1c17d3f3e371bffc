use Rattle.std.proofs.Common.{ℕ, sym, ap, ◌∙◌}
use native.Mathlib.Nat.{sub-zero}
use Rattle.runfile.specs.File.{events_from, ticks_answer}
use Rattle.runfile.proofs.Files.{no_more, tick_falls, tick_fine}
use Rattle.runfile.proofs.reader.ticks.Goals as goal

pub loop-place-init : goal.loop-place-init
loop-place-init c = ap (λ (k : ℕ). ticks_answer 0 0 (events_from c.args.t.now 0 k)) (sym (sub-zero c.args.m))

pub returns-then-tick-last : goal.returns-then-tick-last
returns-then-tick-last c =
    let l = c.loop-place in
    sym (l.invariant ∙ tick_falls _ _ l.place l.last c.loop-place-test.true c.le4-tick.result c.le4-tick.ensures.0 c.if-tick-last.true)

pub loop-place-preserved : goal.loop-place-preserved
loop-place-preserved c =
    let l = c.loop-place in
    l.invariant ∙ tick_fine _ _ l.place l.last c.loop-place-test.true c.le4-tick.result c.le4-tick.ensures.0 c.if-tick-last.false

pub returns : goal.returns
returns c = let l = c.loop-place in sym (l.invariant ∙ no_more _ _ l.place l.last c.loop-place-test.false)
