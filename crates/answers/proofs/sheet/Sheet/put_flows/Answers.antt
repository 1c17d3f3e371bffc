use Rattle.std.proofs.Common.{◌≤◌, ◌+◌, length, arith, ap, ◌∙◌, []}
use lib.Seq.{length-sets}
use Rattle.text.proofs.Texts.{left_next, left_end, put_none, filled}
use Rattle.answers.specs.Printed.{flow_line, flow_lines, row_room}
use Rattle.answers.proofs.FlowLines.{flow_most, flows_first, flows_next, flows_last, part_put}
use Rattle.answers.proofs.sheet.Sheet.put_flows.Goals as goal

pub loop-flow-init : goal.loop-flow-init
loop-flow-init c =
    let z = c.args.self.now in
    (omega arith, flows_first z.state.table z.sizes.now z.dress.rate z.state.table.n c.args.buf.now z.sizes_few z.flows_few c.requires)

pub loop-flow-preserved : goal.loop-flow-preserved
loop-flow-preserved c =
    let z = c.args.self.now in
    let l = c.loop-flow in
    let p = c.put_flow-at in
    let few = z.flows_few in
    let line = flow_line z.state.table z.sizes.now z.dress.rate l.flow in
    let short = flow_most z.state.table z.sizes.now z.dress.rate z.sizes_few l.flow in
    let fits : l.at + row_room ≤ length l.buf = omega (arith, l.invariant.0, l.invariant.1.size, c.loop-flow-test.true, few, c.requires) in
    let put = part_put l.buf l.at line _ _ (omega (arith, fits, short)) p.ensures in (
      omega (arith, l.invariant.0, short, p.ensures.0),
      left_next l.invariant.1 line _ (flows_next z.state.table z.sizes.now z.dress.rate z.state.table.n l.flow c.loop-flow-test.true) _ _ put
          (ap length put.0 ∙ length-sets l.buf l.at line),
    )

pub returns : goal.returns
returns c =
    let z = c.args.self.now in
    let l = c.loop-flow in
    let left = l.invariant.1 in
    let none = flows_last z.state.table z.sizes.now z.dress.rate z.state.table.n l.flow c.loop-flow-test.false in
    let put = left_end left [] none _ _ (put_none _ _) in
    filled 0 0 (flow_lines z.state.table z.sizes.now z.dress.rate 0 z.state.table.n) c.args.buf.now _ _ (omega arith) (omega (arith, left.fits)) put
