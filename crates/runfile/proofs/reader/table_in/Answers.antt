use Rattle.std.proofs.Common.{◌≡◌, sym, ap, ◌∙◌, rules, Result, Err}
use Rattle.std.specs.Result.{result_unwrap_or}
use Rattle.drr.specs.declared.Refused.{Refused}
use Rattle.drr.specs.declared.Table.{Table}
use Rattle.drr.specs.State.{no_flows, fresh_state}
use Rattle.drr.specs.Answers.{fine, verdict_paper, reply}
use Rattle.runfile.specs.declared.reader.Layout.{Layout}
use Rattle.runfile.specs.File.{header_answer}
use Rattle.runfile.proofs.Files.{laid_fine, layout_is, flows_none, flows_some}
use Rattle.runfile.proofs.reader.table_in.Goals as goal

pub returns-in_err-layout : goal.returns-in_err-layout
returns-in_err-layout c =
    let why = c.in_err-layout.field-0.0 in
    let is : c.from_residual.result ≡ Err (record { why = why; place = 0 }) = search rules in
    ap (λ (r : Result Table Refused). reply (verdict_paper r) (fresh_state (result_unwrap_or r no_flows))) is
    ∙ flows_none c.args.file.now why 0 c.in_err-layout.ensures.answer_value

pub returns : goal.returns
returns c =
    let ok : header_answer c.args.file.now ≡ fine = sym c.in_ok-layout.ensures.answer_value in
    (λ i. reply (c.flows_of.ensures.answer_value i) (fresh_state (c.flows_of.ensures.table_value i))) ∙ flows_some _ ok

pub flows_of-requires : goal.flows_of-requires
flows_of-requires c =
    let ok : header_answer c.args.file.now ≡ fine = sym c.in_ok-layout.ensures.answer_value in
    (laid_fine _ ok, ap (λ (x : Layout). x.flows) (c.in_ok-layout.ensures.layout_value ∙ layout_is _ ok))
