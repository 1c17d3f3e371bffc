use Rattle.std.proofs.Common.{Some, ◌≡◌, ◌+◌, ◌-◌, ◌≤◌, ◌<◌, get_or, arith, rules, sym, ap, ◌∙◌}
use Rattle.drr.specs.Pick.{after}
use Rattle.drr.proofs.Search.{first_here, first_on, first_none, after_low}
use Rattle.engine.proofs.next_waiting.Goals as goal

pub returns-then-counts-f-gt0 : goal.returns-then-counts-f-gt0
returns-then-counts-f-gt0 c =
    let n = c.args.n in
    let w = c.args.counts.now in
    let l = c.loop in
    let some : 0 < get_or w (after n l.f) 0 = rw c.after_flow-f.ensures at c.if-counts-f-gt0.true in
    record {
      first = ap Some c.after_flow-f.ensures ∙ sym (l.invariant.1 ∙ first_here n w (n - l.counter) l.f (omega arith) some);
      low = rw c.after_flow-f.ensures (after_low n l.f (search rules));
    }

pub loop-preserved : goal.loop-preserved
loop-preserved c =
    let n = c.args.n in
    let w = c.args.counts.now in
    let l = c.loop in
    let none : get_or w (after n l.f) 0 ≤ 0 = rw c.after_flow-f.ensures at c.if-counts-f-gt0.false in
    let left : n - l.counter - 1 ≡ n - (l.counter + 1) = omega arith in
    rw (c.after_flow-f.ensures, ← left) (
      after_low n l.f (search rules),
      l.invariant.1 ∙ first_on n w (n - l.counter) l.f (omega arith) none,
    )

pub returns : goal.returns
returns c =
    let n = c.args.n in
    let l = c.loop in
    record {
      first = sym (l.invariant.1 ∙ first_none n c.args.counts.now (n - l.counter) l.f (omega arith));
      low = tt;
    }
