use Rattle.std.proofs.Common.{ℕ, ◌+◌, ◌-◌, ◌≤◌, ◌≡◌, List, length, take, drop, arith, ap, length-drop}
use Rattle.drr.specs.declared.Table.{Table}
use Rattle.text.proofs.Texts.{Filled}
use Rattle.text.proofs.Lines.{to_end}
use Rattle.answers.specs.Printed.{overhead_text, overhead_within, titled_text, titled_room, figures_room}
use Rattle.answers.proofs.Given.{as_text}
use Rattle.answers.proofs.Overhead.{overhead_fits, overhead_most}
use Rattle.answers.proofs.FlowLines.{titled_most, two_filled}
use Rattle.answers.proofs.sheet.Sheet.put_rows.Goals as goal

-- the overhead's line is put into the buffer b, which gives b', and there is room behind it
module _ (T : Table) (b b' : List ℕ) (at : ℕ) (enough : figures_room ≤ length b) (same : length b' ≡ length b)
    (put : Filled (overhead_within T.overhead (length b)) b b' at) where
  begun : Filled (overhead_text T.overhead) b b' at
  begun = as_text _ _ b _ _ (overhead_fits T.overhead (length b) (omega (arith, enough))) put

  room : at + titled_room ≤ length b'
  room = omega (arith, begun.0, overhead_most T.overhead, enough, same)

  behind : titled_room ≤ length (take (length b' - at) (drop at b'))
  behind = omega (arith, room, ap length (to_end at b'), length-drop at b')

pub returns : goal.returns
returns c =
    let a = c.args in
    let z = a.self.now in
    let p = c.overhead_line-at in
    let most = titled_most z.state.table z.sizes.now z.dress z.sizes_few z.flows_few in
    two_filled (overhead_text z.state.table.overhead) (titled_text z.state.table z.sizes.now z.dress) a.buf.now _ _ _ _
    (omega (arith, overhead_most z.state.table.overhead, most, c.requires))
    (begun z.state.table a.buf.now _ _ c.requires p.auto.buf p.ensures) c.put_titled.ensures

pub put_titled-requires : goal.put_titled-requires
put_titled-requires c =
    let p = c.overhead_line-at in
    behind c.args.self.now.state.table c.args.buf.now _ _ c.requires p.auto.buf p.ensures

-- far below 64 bits
pub overflow_add-result : goal.overflow_add-result
overflow_add-result c =
    let a = c.args in
    let z = a.self.now in
    let p = c.overhead_line-at in
    omega (
      arith,
      (begun z.state.table a.buf.now _ _ c.requires p.auto.buf p.ensures).0,
      c.put_titled.ensures.0,
      overhead_most z.state.table.overhead,
      titled_most z.state.table z.sizes.now z.dress z.sizes_few z.flows_few,
    )
