use Rattle.std.proofs.Common.{◌≡◌, length, rules, ◌∙◌, ap, Result, Err}
use Rattle.std.specs.Result.{result_unwrap_or}
use Rattle.drr.specs.declared.Refused.{Refused}
use Rattle.drr.specs.declared.Table.{Table}
use Rattle.drr.specs.State.{no_flows}
use Rattle.drr.specs.Answers.{Answer, number_of, refused_at, verdict_paper}
use borrow.Author.Tests.{lt-ltb, le-ltb}
use Rattle.drr.specs.Limits.{most_overhead}
use Rattle.drr.specs.Setup.{records_in}
use Rattle.scheduler.proofs.Setups.{gives_over, gives_count, gives_bad, gives_table, count_out, count_in, counted}
use Rattle.scheduler.proofs.flows.table_of.Goals as goal

abbrev told : Refused → Answer
told fault = refused_at (number_of fault.why) fault.place

-- the overhead is refused
pub returns-then-terms-gt-MOST_OVERHEAD : goal.returns-then-terms-gt-MOST_OVERHEAD
returns-then-terms-gt-MOST_OVERHEAD c =
    let terms = c.args.terms in
    let over = lt-ltb most_overhead terms.overhead c.if-terms-gt-MOST_OVERHEAD.true in
    let g = gives_over (records_in c.args.list) terms over in
    (ap told c.into.ensures ∙ g.answers, g.makes)

-- it is not, but the count is
pub returns-then-list-eq0 : goal.returns-then-list-eq0
returns-then-list-eq0 c =
    let list = c.args.list in
    let terms = c.args.terms in
    let fits = le-ltb most_overhead terms.overhead c.if-terms-gt-MOST_OVERHEAD.false in
    let long : length list.records ≡ 17 = search rules in
    let g = gives_count (records_in list) terms fits (counted list.records list.count _ long (count_out list.count c.then-list-eq0.either)) in
    (ap told c.into-then-list-eq0.ensures ∙ g.answers, g.makes)

-- a flow is
pub returns-in_err-judged : goal.returns-in_err-judged
returns-in_err-judged c =
    let list = c.args.list in
    let terms = c.args.terms in
    let low = le-ltb most_overhead terms.overhead c.if-terms-gt-MOST_OVERHEAD.false in
    let long : length list.records ≡ 17 = search rules in
    let few = counted list.records list.count _ long (count_in list.count c.if-list-eq0.false c.if-list-gt-MOST_FLOWS.false) in
    let fault = c.in_err-judged.field-0.0 in
    let g = gives_bad (records_in list) terms low few fault.why fault.place c.in_err-judged.ensures in
    let is : c.from_residual.result ≡ Err fault = search rules in
    (ap verdict_paper is ∙ g.answers, ap (λ (r : Result Table Refused). result_unwrap_or r no_flows) is ∙ g.makes)

pub returns : goal.returns
returns c =
    let list = c.args.list in
    let terms = c.args.terms in
    let within = le-ltb most_overhead terms.overhead c.if-terms-gt-MOST_OVERHEAD.false in
    let long : length list.records ≡ 17 = search rules in
    let few = counted list.records list.count _ long (count_in list.count c.if-list-eq0.false c.if-list-gt-MOST_FLOWS.false) in
    let g = gives_table (records_in list) terms within few c.in_ok-judged.ensures in
    (g.answers, c.filled.ensures ∙ g.makes)
