-- Each test that has failed on the way opens the definition by one case.
use Rattle.drr.specs.Arrival.{arrival_of}
use borrow.Author.Tests.{le-leb, lt-leb, lt-ltb, le-ltb, eq-eqb, ne_eqb}
use Rattle.engine.proofs.Rows.{row_at, row_put}
use Rattle.engine.proofs.book.Goals as goal

pub returns-then-table-flow : goal.returns-then-table-flow
unfolding arrival_of
returns-then-table-flow c = simp (le-leb _ _ c.if-table-flow.true)

pub returns-then-length-eq0 : goal.returns-then-length-eq0
unfolding arrival_of
returns-then-length-eq0 c = simp (lt-leb _ _ c.if-table-flow.false, eq-eqb _ _ c.if-length-eq0.true)

pub returns-then-table-flow-2 : goal.returns-then-table-flow-2
unfolding arrival_of
returns-then-table-flow-2 c =
    simp (lt-leb _ _ c.if-table-flow.false, ne_eqb _ _ c.if-length-eq0.false, lt-ltb _ _ c.if-table-flow-2.true)

pub returns-then-count-ge-MOST_WAITING : goal.returns-then-count-ge-MOST_WAITING
unfolding arrival_of
returns-then-count-ge-MOST_WAITING c =
    simp (lt-leb _ _ c.if-table-flow.false, ne_eqb _ _ c.if-length-eq0.false, le-ltb _ _ c.if-table-flow-2.false, le-leb _ _ c.if-count-ge-MOST_WAITING.true)

pub returns : goal.returns
unfolding arrival_of
returns c =
    simp (lt-leb _ _ c.if-table-flow.false, ne_eqb _ _ c.if-length-eq0.false, le-ltb _ _ c.if-table-flow-2.false, lt-leb _ _ c.if-count-ge-MOST_WAITING.false, row_at, row_put)
