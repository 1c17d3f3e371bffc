use Rattle.std.proofs.Common.{◌≡◌, ap, List, ℕ, ◌+◌, ◌*◌, ◌≤◌, ◌∙◌, length, arith}
use Rattle.std.proofs.Math.Seq.{length-sets}
use Rattle.drr.specs.declared.Table.{Table}
use Rattle.text.specs.Text.{Put}
use Rattle.text.proofs.Texts.{Filled}
use Rattle.answers.specs.Printed.{overhead_text, overhead_within, overhead_room}
use Rattle.answers.proofs.Given.{as_text}
use Rattle.answers.proofs.Overhead.{overhead_fits, overhead_most}
use Rattle.textform.specs.Made.{each}
use Rattle.textform.specs.Shown.{flow_text, flows_of, flow_line_room}
use Rattle.textform.proofs.Records.{flows_most, behind_length, as_put, both_filled}
use Rattle.textform.proofs.Shown.{table_length}
use Rattle.textform.proofs.show.put_table.Goals as goal

-- a table, the buffer, and the same with the overhead's line put
module _ (T : Table) (b begun : List ℕ) (at : ℕ) (room : overhead_room + flow_line_room * T.n ≤ length b)
    (first : Filled (overhead_within T.overhead (length b)) b begun at) where
  abbrev front : List ℕ
  front = overhead_text T.overhead

  abbrev lines : List ℕ
  lines = each flow_text (flows_of T)

  fits : length front + length lines ≤ length b
  fits = omega (arith, overhead_most T.overhead, flows_most (flows_of T), table_length T, room)

  put : Put b 0 front begun at
  put =
      as_put front b begun at (omega (arith, fits))
      (as_text _ _ b _ _ (overhead_fits T.overhead (length b) (omega (arith, room))) first)

  same : length begun ≡ length b
  same = ap length put.0 ∙ length-sets b 0 front

pub put_flows-requires : goal.put_flows-requires
put_flows-requires c =
    let T = c.args.table in
    let b = c.args.buf.now in
    let begun = c.overhead_line-at.new.buf in
    let at = c.overhead_line-at.result in
    let p = put T b begun at c.requires.1 c.overhead_line-at.ensures in
    let s = same T b begun at c.requires.1 c.overhead_line-at.ensures in
    (c.requires.0, omega (arith, p.1, s, overhead_most T.overhead, c.requires.1, behind_length begun at))

pub returns : goal.returns
returns c =
    let T = c.args.table in
    let b = c.args.buf.now in
    let begun = c.overhead_line-at.new.buf in
    let at = c.overhead_line-at.result in
    both_filled (overhead_text T.overhead) (each flow_text (flows_of T)) b begun _ at _
    (fits T b begun at c.requires.1 c.overhead_line-at.ensures)
    (put T b begun at c.requires.1 c.overhead_line-at.ensures)
    c.put_flows.ensures
