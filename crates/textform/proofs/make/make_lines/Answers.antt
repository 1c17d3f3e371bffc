use Rattle.std.proofs.Common.{◌≡◌, sym, ap, ◌∙◌, rules, tests, eqb, ℕ, ◌+◌, Ok, Err}
use Rattle.textform.specs.Made.{fault}
use Rattle.std.proofs.lemmas.Iterator.Splits.{YieldsList-from_slice_split}
use Rattle.textform.proofs.Ends.{start, stopped, goes_on, no_flow, some_flow}
use Rattle.textform.proofs.make.make_lines.Goals as goal

pub loop-words-init : goal.loop-words-init
loop-words-init c =
    let s = c.split-words-items.ensures in
    let is = c.into_iter-words-iterator.ensures.into_iter_gives in
    start _ _ c.args.text.now _
    (YieldsList-from_slice_split _ (λ b. eqb b 10) c.args.text.now (ap (λ t. t.rest.now) is ∙ s.rest) (ap (λ t. t.done) is ∙ s.done)
    (ap (λ t. t.pred) is ∙ s.closure) (λ x r q k. search (rules, tests))).runs
    c.new-records.ensures

pub loop-words-preserved : goal.loop-words-preserved
loop-words-preserved c =
    let p = c.loop-words.invariant in
    let ok : c.put_line.result ≡ Ok (tt {0}) = search rules in
    goes_on p c.in-Some.words _ c.in-Some.ensures.steps _ ((rw ok at c.put_line.ensures) p.so_far p.held)

pub returns-in_err-map_err : goal.returns-in_err-map_err
returns-in_err-map_err c =
    let p = c.loop-words.invariant in
    let f = c.in_err-map_err.field-0.0 in
    let is : c.from_residual.result ≡ Err f = search rules in
    let bad : c.put_line.result ≡ Err f.want = search rules in
    let line : f.line ≡ c.loop-words.line + 1 = search rules in
    rw is (stopped p c.in-Some.words c.next.new.self c.in-Some.ensures.steps f.want ((rw bad at c.put_line.ensures) p.so_far p.held)
    ∙ ap (λ (k : ℕ). fault k f.want) (sym line))

pub returns-then-flows-eq0 : goal.returns-then-flows-eq0
returns-then-flows-eq0 c = no_flow c.loop-words.invariant _ c.in-None.ensures.steps (sym c.flows.ensures ∙ c.if-flows-eq0.true)

pub returns : goal.returns
returns c =
    let p = c.loop-words.invariant in
    (p.so_far, some_flow p _ c.in-None.ensures.steps (λ e. c.if-flows-eq0.false (c.flows.ensures ∙ e)), p.held)
