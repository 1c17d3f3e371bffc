use Rattle.std.proofs.Common.{ℕ, ◌+◌, ◌-◌, ◌≤◌, ◌≡◌, List, length, take, drop, ltb, arith, ap, length-drop}
use Rattle.drr.specs.declared.Table.{Table}
use Rattle.drr.specs.Limits.{most_flows}
use Rattle.text.specs.Text.{titles_within, overlaid}
use Rattle.text.proofs.Texts.{Filled}
use Rattle.text.proofs.Lines.{to_end}
use Rattle.answers.specs.declared.Dress.{Dress}
use Rattle.answers.specs.Printed.{most_sizes, flows_room, titled_room}
use Rattle.answers.proofs.Given.{as_text}
use Rattle.answers.proofs.FlowLines.{titles_of, lines_of, with_titles, without_titles, titles_fit, rows_most, two_filled}
use Rattle.answers.proofs.sheet.Sheet.put_titled.Goals as goal

-- the titles are put into the buffer b, which gives b', and there is room behind them
module _ (T : Table) (sizes : List ℕ) (dress : Dress) (b b' : List ℕ) (at : ℕ) (few : length sizes ≤ most_sizes) (low : T.n ≤ most_flows)
    (enough : titled_room ≤ length b) (same : length b' ≡ length b)
    (value : at ≡ length (titles_within sizes (ltb 0 dress.rate) (length b)))
    (after : b' ≡ overlaid (titles_within sizes (ltb 0 dress.rate) (length b)) b) where
  titled : Filled (titles_of T sizes dress) b b' at
  titled = as_text _ _ b _ _ (titles_fit T sizes dress few (length b) (omega (arith, enough))) (value, after)

  room : at + flows_room ≤ length b'
  room = omega (arith, titled.0, (rows_most T sizes dress few low).0, enough, same)

  behind : flows_room ≤ length (take (length b' - at) (drop at b'))
  behind = omega (arith, room, ap length (to_end at b'), length-drop at b')

pub returns-then-self : goal.returns-then-self
returns-then-self c =
    let a = c.args in
    let z = a.self.now in
    let t = c.titles_text-at in
    let m = rows_most z.state.table z.sizes.now z.dress z.sizes_few z.flows_few in
    as_text _ _ a.buf.now _ _ (with_titles z.state.table z.sizes.now z.dress c.if-self.true)
    (two_filled (titles_of z.state.table z.sizes.now z.dress) (lines_of z.state.table z.sizes.now z.dress) a.buf.now _ _ _ _
    (omega (arith, m.0, m.1, c.requires))
    (titled z.state.table z.sizes.now z.dress a.buf.now _ _ z.sizes_few z.flows_few c.requires t.auto.buf t.ensures.value t.ensures.buf_after)
    c.put_flows.ensures)

pub returns : goal.returns
returns c =
    let a = c.args in
    let z = a.self.now in
    as_text _ _ a.buf.now _ _ (without_titles z.state.table z.sizes.now z.dress c.if-self.false) c.put_flows-2.ensures

pub put_flows-requires : goal.put_flows-requires
put_flows-requires c =
    let a = c.args in
    let z = a.self.now in
    let t = c.titles_text-at in
    behind z.state.table z.sizes.now z.dress a.buf.now _ _ z.sizes_few z.flows_few c.requires t.auto.buf t.ensures.value t.ensures.buf_after
