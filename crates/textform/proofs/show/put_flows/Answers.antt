use Rattle.std.proofs.Common.{◌≤◌, ◌∙◌, ap, length, take, length-take, ℕ, rules, arith}
use Rattle.std.specs.List.{zip}
use Rattle.std.proofs.lemmas.Iterator.{YieldsList-from_slice, YieldsList-from_zip, YieldsList-from_take}
use Rattle.answers.proofs.Given.{as_text}
use Rattle.textform.specs.Shown.{flow_text}
use Rattle.textform.proofs.Records.{flow_most, flow_of_pair, flows_zipped, none_put, line_room, line_put, all_put, behind, behind_length}
use Rattle.textform.proofs.show.put_flows.Goals as goal

-- a pair's line takes no more than its room
short : (p : ℕ × ℕ) → length (flow_text (flow_of_pair p)) ≤ 47
short p = flow_most (flow_of_pair p)

pub loop-quantum-init : goal.loop-quantum-init
loop-quantum-init c =
    let T = c.args.table in
    let long : (16 ≤ length T.quanta) × (16 ≤ length T.maxima) = search rules in
    let is = c.into_iter-quantum-iterator.ensures.into_iter_gives in
    let source = c.take-quantum-items.ensures.source in
    none_put short _ (take T.n (zip T.quanta T.maxima)) c.args.buf.now _
    (YieldsList-from_take T.n
    (YieldsList-from_zip
    (YieldsList-from_slice T.quanta
    (ap (λ s. s.iter.a.rest.now) is ∙ ap (λ z. z.a.rest.now) source ∙ ap (λ i. i.rest.now) c.zip.ensures.first ∙ c.iter.ensures.rest))
    (YieldsList-from_slice T.maxima
    (ap (λ s. s.iter.b.rest.now) is ∙ ap (λ z. z.b.rest.now) source ∙ c.zip.ensures.second.0)))
    (ap (λ s. s.n) is ∙ c.take-quantum-items.ensures.count)).runs
    (flows_zipped T.quanta T.maxima T.n (omega (arith, long)) (omega (arith, long)))
    (omega (arith, length-take T.n (zip T.quanta T.maxima), c.requires.1))

pub put_record-at-requires : goal.put_record-at-requires
put_record-at-requires c =
    omega (
      arith,
      line_room short c.loop-quantum.invariant (c.in-Some.quantum, c.in-Some.maximum) c.next.new.self c.in-Some.ensures.steps,
      behind_length c.loop-quantum.buf c.loop-quantum.at,
    )

pub loop-quantum-preserved : goal.loop-quantum-preserved
loop-quantum-preserved c =
    line_put short c.loop-quantum.invariant (c.in-Some.quantum, c.in-Some.maximum) c.next.new.self c.in-Some.ensures.steps _ _
    (as_text _ _ (behind c.loop-quantum.buf c.loop-quantum.at) _ _
    (λ i. flow_text (record { quantum = c.from.ensures i; maximum = c.from-in-loop-quantum.ensures i })) c.put_record-at.ensures)

pub returns : goal.returns
returns c = all_put short c.loop-quantum.invariant c.next.new.self c.in-None.ensures.steps
