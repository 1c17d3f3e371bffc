use Rattle.std.proofs.Common.{ℕ, ◌≡◌, ◌+◌, ◌*◌, ◌≤◌, ◌<◌, List, length, arith, rules, sym, ap, ◌∙◌, Result, Err}
use mathlib.Core.Logic.{◌⊎◌, ⊎_elim}
use Rattle.drr.specs.declared.Refused.{Refused}
use Rattle.drr.specs.declared.Refusal.TheVariants.{ListShort}
use Rattle.drr.specs.Limits.{most_events}
use Rattle.drr.specs.Answers.{Answer, number_of, refused_at, fine, verdict_paper}
use Rattle.runfile.specs.declared.reader.Part.{Part}
use Rattle.runfile.specs.File.{event_count, event_offset, file_answer, file_events}
use Rattle.runfile.specs.Listing.{room_of}
use Rattle.runfile.proofs.Files.{file_laid}
use Rattle.runfile.proofs.Whole.{table_is, events_are, handed, listed, run_refused, run_leaves, short_refused, run_fine, run_fills}
use Rattle.runfile.proofs.run_waiting.Goals as goal

-- a file that is accepted, and what was read of it
module _ (b : List ℕ) (ok : (file_answer b).refusal ≡ 0) (events : Part) (r : events ≡ file_events b) where
  count_is : events.count ≡ event_count b
  count_is = ap (λ (p : Part). p.count) (r ∙ events_are b ok)

  at_is : events.at ≡ event_offset b
  at_is = ap (λ (p : Part). p.at) (r ∙ events_are b ok)

  few : events.count ≤ most_events
  few = omega (arith, count_is, (file_laid b ok).events_few)

  starts : events.at ≤ length b
  starts = omega (arith, at_is, (file_laid b ok).events_inside)

  -- the tests of the lists' lengths
  module _ (out beside : List ℕ) where
    short : (length out < 6 * (events.count + 1)) ⊎ ((6 * (events.count + 1) ≤ length out) × (length beside < events.count)) →
        room_of out beside < 6 * (event_count b + 1)
    short = ⊎_elim (λ e. omega (arith, e, count_is)) (λ e. omega (arith, e.1, count_is))

    room : 6 * (events.count + 1) ≤ length out → events.count ≤ length beside → 6 * (event_count b + 1) ≤ room_of out beside
    room o e = omega (arith, o, e, count_is)

ok : (b : List ℕ) → fine ≡ file_answer b → (file_answer b).refusal ≡ 0
ok b told = ap (λ (a : Answer). a.refusal) (sym told)

told : (r : Result (Unit {0}) Refused) (e : Refused) → r ≡ Err e → verdict_paper r ≡ refused_at (number_of e.why) e.place
told r e is = ap verdict_paper is

pub returns-in_err-read : goal.returns-in_err-read
returns-in_err-read c =
    let a = c.args in
    let space = room_of a.out.now a.beside.now in
    let fault = c.in_err-read.field-0.0 in
    let is : c.from_residual.result ≡ Err fault = search rules in
    let r = run_refused a.file.now space fault.why fault.place c.in_err-read.ensures.answer_value in
    let l = run_leaves a.file.now space a.out.now a.beside.now fault.why fault.place r in
    record { result_value = told _ _ is ∙ r; out_after = l.0; beside_after = l.1 }

-- a list is too short
pub returns-then-out-m : goal.returns-then-out-m
returns-then-out-m c =
    let a = c.args in
    let space = room_of a.out.now a.beside.now in
    let fine_file = ok a.file.now c.in_ok-read.ensures.answer_value in
    let r = short_refused a.file.now space fine_file
    (short _ fine_file _ c.in_ok-read.ensures.contents_value.1 a.out.now a.beside.now c.then-out-m.either) in
    let l = run_leaves a.file.now space a.out.now a.beside.now ListShort 0 r in
    record { result_value = told _ _ (ap Err c.into.ensures) ∙ r; out_after = l.0; beside_after = l.1 }

-- both have room
pub returns : goal.returns
returns c =
    let a = c.args in
    let space = room_of a.out.now a.beside.now in
    let fine_file = ok a.file.now c.in_ok-read.ensures.answer_value in
    let read = c.in_ok-read.ensures.contents_value.1 in
    let whole = listed a.file.now fine_file _ (c.in_ok-read.ensures.contents_value.0 ∙ table_is _ fine_file) _ _
    (count_is _ fine_file _ read) (at_is _ fine_file _ read) a.out.now a.beside.now in
    let r = run_fine a.file.now space fine_file (room _ fine_file _ read a.out.now a.beside.now c.if-out-m.false c.if-beside-m.false) in
    let fills = run_fills a.file.now space a.out.now a.beside.now r in
    record {
      result_value = r;
      out_after = c.run_events.ensures.out_after ∙ whole.0 ∙ fills.0;
      beside_after = c.run_events.ensures.beside_after ∙ whole.1 ∙ fills.1;
    }

pub overflow_add-m : goal.overflow_add-m
overflow_add-m c =
    omega (arith, few _ (ok _ c.in_ok-read.ensures.answer_value) _ c.in_ok-read.ensures.contents_value.1)

pub overflow_mul-m : goal.overflow_mul-m
overflow_mul-m c =
    omega (arith, few _ (ok _ c.in_ok-read.ensures.answer_value) _ c.in_ok-read.ensures.contents_value.1)

pub slice_bounds-run_events-count : goal.slice_bounds-run_events-count
slice_bounds-run_events-count c = starts _ (ok _ c.in_ok-read.ensures.answer_value) _ c.in_ok-read.ensures.contents_value.1

pub slice_bounds-run_events-start : goal.slice_bounds-run_events-start
slice_bounds-run_events-start c = starts _ (ok _ c.in_ok-read.ensures.answer_value) _ c.in_ok-read.ensures.contents_value.1

pub run_events-requires : goal.run_events-requires
run_events-requires c =
    let a = c.args in
    let fine_file = ok a.file.now c.in_ok-read.ensures.answer_value in
    let read = c.in_ok-read.ensures.contents_value.1 in
    let h = handed a.file.now fine_file _ (c.in_ok-read.ensures.contents_value.0 ∙ table_is _ fine_file) _ _
    (count_is _ fine_file _ read) (at_is _ fine_file _ read) a.out.now a.beside.now (room _ fine_file _ read a.out.now a.beside.now c.if-out-m.false c.if-beside-m.false) in
    record { m_in_bounds = h.0; ranged = h.1.0; m_in_bounds_2 = h.1.1 }
