use Rattle.std.proofs.Common.{◌≡◌, true, arith, refl, sym, ◌∙◌}
use Rattle.drr.specs.Limits.{most_flows, most_waiting}
use Rattle.drr.specs.State.{line_in}
use Rattle.drr.specs.Sound.{cellsb}
use Rattle.drr.proofs.Bools.{all_none, all_more}
use Rattle.engine.proofs.Rows.{row_at}
use Rattle.engine.proofs.Tests.{head_fault, flow_fault, no_fault, numbers_fault, cell_fault}
use Rattle.engine.proofs.Tests.{bytes_on, sum_fault, flow_good}
use Rattle.engine.proofs.sound_in.Goals as goal

pub returns-then-not-head_ok : goal.returns-then-not-head_ok
returns-then-not-head_ok c = head_fault _ _ (sym c.head_ok.ensures ∙ c.if-not-head_ok.true)

pub returns-after-loop-f : goal.returns-after-loop-f
returns-after-loop-f c =
    let e : c.loop-f.f ≡ most_flows = omega arith in
    no_fault c.args.table.now (line_in c.args.line.now) (sym c.head_ok.ensures ∙ c.if-not-head_ok.false) (rw e at c.loop-f.invariant)

pub returns-then-bytes-line : goal.returns-then-bytes-line
returns-then-bytes-line c =
    let T = c.args.table.now in
    let L = line_in c.args.line.now in
    let i = c.loop-k.invariant in
    let whole : c.loop-k.k ≡ most_waiting = omega arith in
    flow_fault T L c.loop-f.f (omega arith)
    (sum_fault T L c.loop-f.f (sym c.numbers_ok.ensures ∙ c.if-not-numbers_ok.false) (rw whole at i.0) _ (rw whole at i.1) c.if-bytes-line.true)

pub returns-then-not-numbers_ok : goal.returns-then-not-numbers_ok
returns-then-not-numbers_ok c =
    let T = c.args.table.now in
    let L = line_in c.args.line.now in
    flow_fault T L c.loop-f.f (omega arith) (numbers_fault T L c.loop-f.f (sym c.numbers_ok.ensures ∙ c.if-not-numbers_ok.true))

pub returns-then-not-cell_ok : goal.returns-then-not-cell_ok
unfolding cellsb
returns-then-not-cell_ok c =
    let T = c.args.table.now in
    let L = line_in c.args.line.now in
    flow_fault T L c.loop-f.f (omega arith)
    (cell_fault T L c.loop-f.f c.loop-k.k (omega arith) (rw (row_at c.args.line.now.rows c.loop-f.f) (sym c.cell_ok.ensures ∙ c.if-not-cell_ok.true)))

pub loop-f-init : goal.loop-f-init
loop-f-init c = all_none _

pub loop-k-init : goal.loop-k-init
loop-k-init c = (all_none _, refl, omega arith)

pub loop-f-preserved : goal.loop-f-preserved
loop-f-preserved c =
    let i = c.loop-k.invariant in
    let whole : c.loop-k.k ≡ most_waiting = omega arith in
    all_more c.loop-f.f _ c.loop-f.invariant
    (flow_good c.args.table.now (line_in c.args.line.now) c.loop-f.f (sym c.numbers_ok.ensures ∙ c.if-not-numbers_ok.false) (rw whole at i.0) _
    (rw whole at i.1) c.if-bytes-line.false)

pub loop-k-preserved : goal.loop-k-preserved
unfolding cellsb
loop-k-preserved c =
    let i = c.loop-k.invariant in
    let row = row_at c.args.line.now.rows c.loop-f.f in
    let good : cellsb c.args.table.now (line_in c.args.line.now) c.loop-f.f c.loop-k.k ≡ true = rw row (sym c.cell_ok.ensures ∙ c.if-not-cell_ok.false) in (
      all_more c.loop-k.k _ i.0 good,
      bytes_on _ c.loop-k.k i.1 (rw row refl),
      omega (arith, i.2),
    )
