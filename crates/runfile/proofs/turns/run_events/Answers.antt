-- Each turn of the loop is a step of `Going`: `here` says where the run is before it.
use Rattle.std.proofs.Common.{ℕ, ◌≡◌, ◌+◌, ◌≤◌, [], ◌∷◌, set, arith, refl, ap, ◌∙◌}
use mathlib.Core.Path.{subst⁻¹}
use Rattle.drr.specs.declared.State.{State}
use Rattle.drr.specs.State.{line_in, fresh_line}
use Rattle.drr.specs.Answers.{arrival_paper, pick_paper}
use Rattle.drr.proofs.States.{line_back}
use Rattle.engine.proofs.Loop.{sound_bookable}
use Rattle.runfile.specs.File.{Event}
use Rattle.runfile.specs.Listing.{tally, written}
use Rattle.runfile.proofs.Lines.{one}
use Rattle.runfile.proofs.Going.{here, beside_fits, inside_first}
use Rattle.runfile.proofs.Going.{books, booked_less, sends, sent_less, given_most, given_before, inside_jumps, jumps_less, run_ends}
use Rattle.runfile.proofs.Going.{not_sent, has_come, not_come}
use Rattle.runfile.proofs.turns.run_events.Goals as goal

pub loop-e-init : goal.loop-e-init
loop-e-init c =
    let none : c.default-y.result ≡ tally 0 0 0 = λ i. tally (c.default-y.ensures.0 i) (c.default-y.ensures.1.0 i) (c.default-y.ensures.1.1 i) in
    let fresh = ap (λ (s : State). line_in s.line) c.fresh.ensures ∙ line_back c.args.table (fresh_line c.args.table.n) in
    rw (none, fresh) (inside_first c.args.table c.args.t.now c.args.m c.args.out.now c.args.beside.now c.requires.ranged.0)

-- ---- an event is booked
pub loop-e-preserved-then-has_come : goal.loop-e-preserved-then-has_come
loop-e-preserved-then-has_come c =
    let a = c.loop-e in
    let E = c.event_at-e in
    let come = has_come c.args.t.now c.args.m a.now a.at c.has_come.ensures c.if-has_come.true in
    let is_tick = ap (λ (e : Event). e.tick) E.ensures.0 in
    books (here c.requires.m_in_bounds_2.0 c.requires.m_in_bounds_2.1 a.invariant) _ _ _
    is_tick (ap (λ (e : Event). e.flow) E.ensures.0) (ap (λ (e : Event). e.length) E.ensures.0) come.0
    (subst⁻¹ (λ (x : ℕ). x ≤ a.now) is_tick come.1) (arrival_paper c.book-answer.result) _ c.book-answer.ensures
    _ c.note-y.ensures.out_after _ c.waiting_at.ensures _ c.note-y.ensures.beside_after _ refl _ c.note-y.ensures.value

pub loop-e-smaller-then-has_come : goal.loop-e-smaller-then-has_come
loop-e-smaller-then-has_come c =
    let a = c.loop-e in
    let E = c.event_at-e in
    let come = has_come c.args.t.now c.args.m a.now a.at c.has_come.ensures c.if-has_come.true in
    let is_tick = ap (λ (e : Event). e.tick) E.ensures.0 in
    booked_less (here c.requires.m_in_bounds_2.0 c.requires.m_in_bounds_2.1 a.invariant) _ _ _
    is_tick (ap (λ (e : Event). e.flow) E.ensures.0) (ap (λ (e : Event). e.length) E.ensures.0) come.0
    (subst⁻¹ (λ (x : ℕ). x ≤ a.now) is_tick come.1) (arrival_paper c.book-answer.result) _ c.book-answer.ensures

-- ---- a pick is idle
pub returns-then-m-at : goal.returns-then-m-at
returns-then-m-at c =
    let a = c.loop-e in
    let p = c.pick_in-answer in
    let z = run_ends (here c.requires.m_in_bounds_2.0 c.requires.m_in_bounds_2.1 a.invariant)
    (not_come c.args.t.now c.args.m a.now a.at c.has_come.ensures c.if-has_come.false) _
    (not_sent c.args.table (line_in a.line) p.result _ p.ensures c.in_default.not-Sent) c.if-m-at.true _
    (c.put_line.ensures ∙ ap (λ (k : ℕ). written 6 a.out k (3 ∷ a.y.last ∷ a.y.sent ∷ a.y.refused ∷ 0 ∷ 0 ∷ [])) c.lines.ensures) in
    record { out_after = z.0; beside_after = z.1 }

pub loop-e-preserved-in_default : goal.loop-e-preserved-in_default
loop-e-preserved-in_default c =
    let a = c.loop-e in
    let p = c.pick_in-answer in
    let small = rw c.le4-now.ensures.0 at c.le4-now.ensures.1 in
    rw c.le4-now.ensures.0
    (inside_jumps (here c.requires.m_in_bounds_2.0 c.requires.m_in_bounds_2.1 a.invariant)
    (not_come c.args.t.now c.args.m a.now a.at c.has_come.ensures c.if-has_come.false) _
    (not_sent c.args.table (line_in a.line) p.result _ p.ensures c.in_default.not-Sent) c.if-m-at.false small)

pub loop-e-smaller-in_default : goal.loop-e-smaller-in_default
loop-e-smaller-in_default c =
    let a = c.loop-e in
    let p = c.pick_in-answer in
    rw c.le4-now.ensures.0
    (jumps_less (here c.requires.m_in_bounds_2.0 c.requires.m_in_bounds_2.1 a.invariant)
    (not_come c.args.t.now c.args.m a.now a.at c.has_come.ensures c.if-has_come.false) _
    (not_sent c.args.table (line_in a.line) p.result _ p.ensures c.in_default.not-Sent) c.if-m-at.false)

-- ---- a pick sends
pub loop-e-preserved : goal.loop-e-preserved
loop-e-preserved c =
    let a = c.loop-e in
    let s = c.in-Sent in
    let H = here c.requires.m_in_bounds_2.0 c.requires.m_in_bounds_2.1 a.invariant in
    let later = not_come c.args.t.now c.args.m a.now a.at c.has_come.ensures c.if-has_come.false in
    let before = given_before H later _ _ c.pick_in-answer.ensures _ _ _ _ (ap pick_paper s.is) in
    let ends_at = ap (λ (x : ℕ). a.now + x) c.charge_of.ensures in
    let line = c.put_line-in-loop-e.ensures ∙ (λ i. written 6 a.out (c.lines-in-loop-e.ensures i) (1 ∷ a.now ∷ s.flow ∷ c.from-len.ensures i ∷ c.from-deficit.ensures i ∷ c.from-visits.ensures i ∷ [])) in
    let number = ap (λ (k : ℕ). set a.beside k c.waiting_at-in-loop-e.result) c.lines-in-loop-e-2.ensures ∙ one _ _ _ (beside_fits H before) in
    sends H later _ _ c.pick_in-answer.ensures _ _ _ _ (ap pick_paper s.is) _ ends_at
    _ line _ c.waiting_at-in-loop-e.ensures _ number _ c.after_sent-y.ensures

pub loop-e-smaller : goal.loop-e-smaller
loop-e-smaller c =
    let a = c.loop-e in
    let ends_at = ap (λ (x : ℕ). a.now + x) c.charge_of.ensures in
    sent_less (here c.requires.m_in_bounds_2.0 c.requires.m_in_bounds_2.1 a.invariant)
    (not_come c.args.t.now c.args.m a.now a.at c.has_come.ensures c.if-has_come.false) _ _ c.pick_in-answer.ensures
    _ _ _ _ (ap pick_paper c.in-Sent.is) _ ends_at

-- ---- what the calls on the way ask
pub book-answer-requires : goal.book-answer-requires
book-answer-requires c = sound_bookable c.loop-e.invariant.sound

pub bounds-beside-lines : goal.bounds-beside-lines
bounds-beside-lines c =
    let a = c.loop-e in
    let H = here c.requires.m_in_bounds_2.0 c.requires.m_in_bounds_2.1 a.invariant in
    let before = given_before H (not_come c.args.t.now c.args.m a.now a.at c.has_come.ensures c.if-has_come.false) _ _ c.pick_in-answer.ensures
    _ _ _ _ (ap pick_paper c.in-Sent.is) in
    omega (arith, c.lines-in-loop-e-2.ensures, beside_fits H before)

pub overflow_cast-len : goal.overflow_cast-len
overflow_cast-len c =
    let a = c.loop-e in
    omega (
      arith,
      given_most (here c.requires.m_in_bounds_2.0 c.requires.m_in_bounds_2.1 a.invariant)
          (not_come c.args.t.now c.args.m a.now a.at c.has_come.ensures c.if-has_come.false) _ _ c.pick_in-answer.ensures
          _ _ _ _ (ap pick_paper c.in-Sent.is),
    )
