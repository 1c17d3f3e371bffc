use Rattle.std.proofs.Common.{ℕ, ◌≡◌, ◌+◌, ◌*◌, ◌≤◌, ◌<◌, List, set, take, replicate, arith, sym, ap, ◌∙◌, zero-add}
use lib.Seq.{paste, take-paste, take_all}
use Rattle.drr.specs.Limits.{most_flows}
use Rattle.drr.specs.declared.FlowRecord.{FlowRecord}
use Rattle.drr.proofs.Copies.{copy_turn}
use Rattle.drr.proofs.Tables.{none}
use Rattle.runfile.specs.File.{le4, flows_from}
use Rattle.runfile.proofs.Files.{flow_at, flows_length}
use Rattle.runfile.proofs.reader.records.Goals as goal

abbrev zeros : List FlowRecord
zeros = replicate 17 none

-- the record that was read is the list's
put_next : (t : List ℕ) (n i q m : ℕ) (rs : List FlowRecord) → n ≤ most_flows → i < n → rs ≡ paste zeros 0 (flows_from t 0 n) i →
    q ≡ le4 t (8 * i) → m ≡ le4 t (8 * i + 4) → set rs i (record { quantum = q; maximum = m }) ≡ paste zeros 0 (flows_from t 0 n) (i + 1)
put_next t n i q m rs few l is is-q is_m =
    let e = flow_at t 0 n i l ∙ ap (λ (k : ℕ). record { quantum = le4 t (8 * k); maximum = le4 t (8 * k + 4) }) (zero-add i) in
    (λ j. set (is j) i (record { quantum = is-q j; maximum = is_m j }))
    ∙ ap (set (paste zeros 0 (flows_from t 0 n) i) i) (sym e)
    ∙ copy_turn zeros (flows_from t 0 n) i none (omega arith) (omega (arith, flows_length t 0 n))

-- all of them
whole : (t : List ℕ) (n : ℕ) → take n (paste zeros 0 (flows_from t 0 n) n) ≡ flows_from t 0 n
whole t n =
    let long = flows_length t 0 n in
    ap (λ (k : ℕ). take k (paste zeros 0 (flows_from t 0 n) n)) (sym (zero-add n))
    ∙ take-paste zeros 0 (flows_from t 0 n) n (omega arith) (omega arith)
    ∙ take_all n (flows_from t 0 n) (omega arith)

pub loop-i-preserved : goal.loop-i-preserved
loop-i-preserved c =
    put_next c.args.t.now c.args.n c.loop-i.i _ _ _ (omega arith) c.loop-i-test.true c.loop-i.invariant c.le4.ensures.0 c.le4-in-loop-i.ensures.0

pub returns : goal.returns
returns c =
    let e : c.loop-i.i ≡ c.args.n = omega arith in
    ap (take c.args.n) (rw e at c.loop-i.invariant) ∙ whole c.args.t.now c.args.n
