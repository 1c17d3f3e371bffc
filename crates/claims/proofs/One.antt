-- No second answer: of each public function, that no two results meet its contract, and no two contents of what was lent. `Post` is
-- the contract itself, as the source's `ensures` state it, of the lifetimes κs, the arguments a at entry, a result, and what was lent at
-- exit (`x.0.now` of the first parameter, `x.1.0.now` of the second, and so on): a weaker `ensures` would leave these unproved.
use mathlib.Core.Path.{◌≡◌, sym, ap, ◌∙◌}
use mathlib.Core.Bool.{Bool}
use Prim.Native.Nat.{ℕ}
use Rattle.std.specs.Prelude.{Option, Result}
use Rattle.drr.specs.declared.Common.{Common}
use Rattle.drr.specs.declared.State.{State}
use Rattle.drr.specs.declared.Table.{Table}
use Rattle.drr.specs.declared.Answered.{Answered}
use Rattle.drr.specs.declared.Refusal.{Refusal}
use Rattle.drr.specs.declared.Refused.{Refused}
use Rattle.drr.specs.declared.PickAnswer.{PickAnswer}
use Rattle.drr.specs.Answers.{verdict_paper, arrival_paper, pick_paper, Outcome, reply}
use Rattle.drr.specs.State.{no_flows}
use Rattle.drr.proofs.Papers as papers
use Rattle.drr.proofs.States.{line_one}
use Rattle.figures.specs.Answers.{figure_paper}
use Rattle.figures.proofs.Claims.{figure_apart}
use Rattle.runfile.specs.declared.reader.Contents.{Contents}
use Rattle.textform.specs.declared.Made.{Made as MadeFile}
use Rattle.exports.specs.declared.SetupResult.{SetupResult}
use Rattle.exports.specs.declared.ArrivalResult.{ArrivalResult}
use Rattle.exports.specs.declared.PickResult.{PickResult}
use Rattle.exports.specs.declared.FigureResult.{FigureResult}
use Rattle.exports.specs.declared.RunResult.{RunResult}
use Rattle.exports.specs.Told.{setup_told, arrival_told, pick_told, figure_told, run_told}
use Rattle.exports.proofs.Apart as told
use Rattle.drr.proofs.refusal_number.Reads as of_refusal_number
use Rattle.drr.proofs.common_of.Reads as of_common
use Rattle.drr.proofs.RefusedFromRefusal.from.Reads as of_refused_from
use Rattle.widths.proofs.usize_of_u8.Reads as of_usize_of_u8
use Rattle.widths.proofs.usize_of_u32.Reads as of_usize_of_u32
use Rattle.widths.proofs.u64_of_u32.Reads as of_u64_of_u32
use Rattle.widths.proofs.u64_of_usize.Reads as of_u64_of_usize
use Rattle.scheduler.proofs.sound.Reads as of_sound
use Rattle.scheduler.proofs.arrival.Reads as of_arrival
use Rattle.scheduler.proofs.pick.Reads as of_pick
use Rattle.scheduler.proofs.flows.setup.Reads as of_setup
use Rattle.scheduler.proofs.flows.setup_of.Reads as of_setup_of
use Rattle.scheduler.proofs.flows.made.Reads as of_made
use Rattle.scheduler.proofs.flows.table_of.Reads as of_table_of
use Rattle.scheduler.proofs.flows.refused.Reads as of_refused
use Rattle.scheduler.proofs.flows.fresh.Reads as of_fresh
use Rattle.scheduler.proofs.sound_line.Reads as of_sound_line
use Rattle.engine.proofs.sound_in.Reads as of_sound_in
use Rattle.engine.proofs.pick_in.Reads as of_pick_in
use Rattle.engine.proofs.charge_of.Reads as of_charge
use Rattle.engine.proofs.book.Reads as of_book
use Rattle.figures.proofs.owed.Reads as of_owed
use Rattle.figures.proofs.wait.Reads as of_wait
use Rattle.figures.proofs.wait_time.Reads as of_wait_time
use Rattle.figures.proofs.lag.Reads as of_lag
use Rattle.figures.proofs.waiting_bytes.Reads as of_waiting_bytes
use Rattle.figures.proofs.value_of.Reads as of_value_of
use Rattle.figures.proofs.all_figures.Reads as of_all_figures
use Rattle.runfile.proofs.reader.read.Reads as of_read
use Rattle.runfile.proofs.reader.read_flows.Reads as of_read_flows
use Rattle.runfile.proofs.fields.le2.Reads as of_le2
use Rattle.runfile.proofs.fields.le4.Reads as of_le4
use Rattle.runfile.proofs.run.Reads as of_run
use Rattle.runfile.proofs.run_waiting.Reads as of_run_waiting
use Rattle.text.proofs.listing_text.Reads as of_listing_text
use Rattle.text.proofs.beside_text.Reads as of_beside_text
use Rattle.text.proofs.refusal_text.Reads as of_refusal_text
use Rattle.text.proofs.numbers_text.Reads as of_numbers_text
use Rattle.text.proofs.timed_text.Reads as of_timed_text
use Rattle.text.proofs.titles_text.Reads as of_titles_text
use Rattle.text.proofs.part_by.Reads as of_part_by
use Rattle.text.proofs.word_of.Reads as of_word_of
use Rattle.text.proofs.same.Reads as of_same
use Rattle.text.proofs.around_text.Reads as of_around_text
use Rattle.answers.proofs.overhead_line.Reads as of_overhead_line
use Rattle.answers.proofs.refusal_line.Reads as of_refusal_line
use Rattle.answers.proofs.run_text.Reads as of_run_text
use Rattle.answers.proofs.run_waiting_text.Reads as of_run_waiting_text
use Rattle.answers.proofs.figures_text.Reads as of_figures_text
use Rattle.textform.proofs.show.show_text.Reads as of_show_text
use Rattle.textform.proofs.make.make_file.Reads as of_make_file
use Rattle.textform.proofs.told.fault_text.Reads as of_fault_text
use Rattle.exports.proofs.wikulambag_setup.Reads as told_setup
use Rattle.exports.proofs.wikulambag_arrival.Reads as told_arrival
use Rattle.exports.proofs.wikulambag_pick.Reads as told_pick
use Rattle.exports.proofs.wikulambag_sound.Reads as told_sound
use Rattle.exports.proofs.wikulambag_owed.Reads as told_owed
use Rattle.exports.proofs.wikulambag_wait.Reads as told_wait
use Rattle.exports.proofs.wikulambag_lag.Reads as told_lag
use Rattle.exports.proofs.wikulambag_waiting_bytes.Reads as told_waiting_bytes
use Rattle.exports.proofs.wikulambag_run.Reads as told_run

-- ---- drr, widths: the result itself

pub one_refusal_number : (κs : _) (a : _) (r t : ℕ) (x y : _) → of_refusal_number.Post κs a r x → of_refusal_number.Post κs a t y → r ≡ t
one_refusal_number κs a r t x y p q = p ∙ sym (q)

pub one_common : (κs : _) (a : _) (r t : Common) (x y : _) → of_common.Post κs a r x → of_common.Post κs a t y → r ≡ t
one_common κs a r t x y p q = p ∙ sym (q)

pub one_refused_from : (κs : _) (a : _) (r t : Refused) (x y : _) → of_refused_from.Post κs a r x → of_refused_from.Post κs a t y → r ≡ t
one_refused_from κs a r t x y p q = p ∙ sym q

pub one_usize_of_u8 : (κs : _) (a : _) (r t : ℕ) (x y : _) → of_usize_of_u8.Post κs a r x → of_usize_of_u8.Post κs a t y → r ≡ t
one_usize_of_u8 κs a r t x y p q = p.0 ∙ sym q.0

pub one_usize_of_u32 : (κs : _) (a : _) (r t : ℕ) (x y : _) → of_usize_of_u32.Post κs a r x → of_usize_of_u32.Post κs a t y → r ≡ t
one_usize_of_u32 κs a r t x y p q = p.0 ∙ sym q.0

pub one_u64_of_u32 : (κs : _) (a : _) (r t : ℕ) (x y : _) → of_u64_of_u32.Post κs a r x → of_u64_of_u32.Post κs a t y → r ≡ t
one_u64_of_u32 κs a r t x y p q = p.0 ∙ sym q.0

pub one_u64_of_usize : (κs : _) (a : _) (r t : ℕ) (x y : _) → of_u64_of_usize.Post κs a r x → of_u64_of_usize.Post κs a t y → r ≡ t
one_u64_of_usize κs a r t x y p q = p ∙ sym (q)

-- ---- the scheduler: the paper answer settles the answer, and the state stands beside it

pub one_sound : (κs : _) (a : _) (r t : Bool) (x y : _) → of_sound.Post κs a r x → of_sound.Post κs a t y → r ≡ t
one_sound κs a r t x y p q = p ∙ sym (q)

pub one_arrival : (κs : _) (a : _) (r t : Answered (Result (Unit {0}) Refusal)) (x y : _) → of_arrival.Post κs a r x → of_arrival.Post κs a t y → r ≡ t
one_arrival κs a r t x y p q = papers.answered_one arrival_paper papers.arrival_one _ r t p q

pub one_pick : (κs : _) (a : _) (r t : Answered PickAnswer) (x y : _) → of_pick.Post κs a r x → of_pick.Post κs a t y → r ≡ t
one_pick κs a r t x y p q = papers.answered_one pick_paper papers.pick_one _ r t p q

pub one_setup_of : (κs : _) (a : _) (r t : Answered (Result (Unit {0}) Refused)) (x y : _) → of_setup_of.Post κs a r x → of_setup_of.Post κs a t y → r ≡ t
one_setup_of κs a r t x y p q = papers.answered_one verdict_paper papers.verdict_one _ r t p q

pub one_table_of : (κs : _) (a : _) (r t : Result Table Refused) (x y : _) → of_table_of.Post κs a r x → of_table_of.Post κs a t y → r ≡ t
one_table_of κs a r t x y p q = papers.result_one no_flows r t (p.0 ∙ sym q.0) (p.1 ∙ sym q.1)

pub one_made : (κs : _) (a : _) (r t : Answered (Result (Unit {0}) Refused)) (x y : _) → of_made.Post κs a r x → of_made.Post κs a t y → r ≡ t
one_made κs a r t x y p q = papers.answered_one verdict_paper papers.verdict_one _ r t p q

pub one_refused : (κs : _) (a : _) (r t : Answered (Result (Unit {0}) Refused)) (x y : _) → of_refused.Post κs a r x → of_refused.Post κs a t y → r ≡ t
one_refused κs a r t x y p q =
    let answer = papers.verdict_one r.answer t.answer (p.0 ∙ sym q.0) in
    λ i. record { answer = answer i; state = (p.1 ∙ sym q.1) i }

pub one_fresh : (κs : _) (a : _) (r t : State) (x y : _) → of_fresh.Post κs a r x → of_fresh.Post κs a t y → r ≡ t
one_fresh κs a r t x y p q = p ∙ sym (q)

pub one_setup : (κs : _) (a : _) (r t : Answered (Result (Unit {0}) Refused)) (x y : _) → of_setup.Post κs a r x → of_setup.Post κs a t y → r ≡ t
one_setup κs a r t x y p q = papers.answered_one verdict_paper papers.verdict_one _ r t p q

-- ---- the test of a line, and the steps beneath, which other crates call

pub one_sound_line : (κs : _) (a : _) (r t : Bool) (x y : _) → of_sound_line.Post κs a r x → of_sound_line.Post κs a t y → r ≡ t
one_sound_line κs a r t x y p q = p ∙ sym (q)

pub one_sound_in : (κs : _) (a : _) (r t : Bool) (x y : _) → of_sound_in.Post κs a r x → of_sound_in.Post κs a t y → r ≡ t
one_sound_in κs a r t x y p q = p ∙ sym (q)

-- the result, and the line at exit
pub one_pick_in : (κs : _) (a : _) (r t : PickAnswer) (x y : _) → of_pick_in.Post κs a r x → of_pick_in.Post κs a t y →
    (r ≡ t) × (x.1.0.now ≡ y.1.0.now)
one_pick_in κs a r t x y p q =
    let e = p ∙ sym q in
    (papers.pick_one r t (ap (λ (z : Outcome). z.answer) e), line_one _ _ (ap (λ (z : Outcome). z.line) e))

pub one_charge_of : (κs : _) (a : _) (r t : ℕ) (x y : _) → of_charge.Post κs a r x → of_charge.Post κs a t y → r ≡ t
one_charge_of κs a r t x y p q = p ∙ sym q

-- likewise
pub one_book : (κs : _) (a : _) (r t : Result (Unit {0}) Refusal) (x y : _) → of_book.Post κs a r x → of_book.Post κs a t y →
    (r ≡ t) × (x.1.0.now ≡ y.1.0.now)
one_book κs a r t x y p q =
    let e = p ∙ sym q in
    (papers.arrival_one r t (ap (λ (z : Outcome). z.answer) e), line_one _ _ (ap (λ (z : Outcome). z.line) e))

-- ---- the figures

pub one_owed : (κs : _) (a : _) (r t : Result ℕ Refusal) (x y : _) → of_owed.Post κs a r x → of_owed.Post κs a t y → r ≡ t
one_owed κs a r t x y p q = figure_apart r t (p ∙ sym q)

pub one_wait : (κs : _) (a : _) (r t : Result ℕ Refusal) (x y : _) → of_wait.Post κs a r x → of_wait.Post κs a t y → r ≡ t
one_wait κs a r t x y p q = figure_apart r t (p ∙ sym q)

pub one_wait_time : (κs : _) (a : _) (r t : Result ℕ Refusal) (x y : _) → of_wait_time.Post κs a r x → of_wait_time.Post κs a t y → r ≡ t
one_wait_time κs a r t x y p q = figure_apart r t (p ∙ sym q)

pub one_lag : (κs : _) (a : _) (r t : Result ℕ Refusal) (x y : _) → of_lag.Post κs a r x → of_lag.Post κs a t y → r ≡ t
one_lag κs a r t x y p q = figure_apart r t (p ∙ sym q)

pub one_waiting_bytes : (κs : _) (a : _) (r t : Result ℕ Refusal) (x y : _) → of_waiting_bytes.Post κs a r x → of_waiting_bytes.Post κs a t y →
    r ≡ t
one_waiting_bytes κs a r t x y p q = figure_apart r t (p ∙ sym q)

pub one_value_of : (κs : _) (a : _) (r t : ℕ) (x y : _) → of_value_of.Post κs a r x → of_value_of.Post κs a t y → r ≡ t
one_value_of κs a r t x y p q = p ∙ sym q

pub one_all_figures : (κs : _) (a : _) (r t : ℕ) (x y : _) → of_all_figures.Post κs a r x → of_all_figures.Post κs a t y →
    (r ≡ t) × (x.1.1.1.0.now ≡ y.1.1.1.0.now)
one_all_figures κs a r t x y p q = (p.0 ∙ sym q.0, p.1 ∙ sym q.1)

-- ---- the run file and its run

pub one_read : (κs : _) (a : _) (r t : Result Contents Refused) (x y : _) → of_read.Post κs a r x → of_read.Post κs a t y → r ≡ t
one_read κs a r t x y p q =
    papers.result_settled _ (λ c d m n i. record { table = (m.0 ∙ sym n.0) i; events = (m.1 ∙ sym n.1) i }) r t (p.0 ∙ sym q.0) p.1 q.1

pub one_read_flows : (κs : _) (a : _) (r t : Answered (Result (Unit {0}) Refused)) (x y : _) → of_read_flows.Post κs a r x → of_read_flows.Post κs a t y → r ≡ t
one_read_flows κs a r t x y p q = papers.answered_one verdict_paper papers.verdict_one _ r t p q

pub one_run : (κs : _) (a : _) (r t : Result (Unit {0}) Refused) (x y : _) → of_run.Post κs a r x → of_run.Post κs a t y →
    (r ≡ t) × (x.1.0.now ≡ y.1.0.now)
one_run κs a r t x y p q = (papers.verdict_one r t (p.0 ∙ sym q.0), p.1 ∙ sym q.1)

pub one_run_waiting : (κs : _) (a : _) (r t : Result (Unit {0}) Refused) (x y : _) → of_run_waiting.Post κs a r x → of_run_waiting.Post κs a t y →
    (r ≡ t) × (x.1.0.now ≡ y.1.0.now) × (x.1.1.0.now ≡ y.1.1.0.now)
one_run_waiting κs a r t x y p q =
    (papers.verdict_one r t (p.0 ∙ sym q.0), p.1.0 ∙ sym q.1.0, p.1.1 ∙ sym q.1.1)

pub one_le2 : (κs : _) (a : _) (r t : ℕ) (x y : _) → of_le2.Post κs a r x → of_le2.Post κs a t y → r ≡ t
one_le2 κs a r t x y p q = p.0 ∙ sym q.0

pub one_le4 : (κs : _) (a : _) (r t : ℕ) (x y : _) → of_le4.Post κs a r x → of_le4.Post κs a t y → r ≡ t
one_le4 κs a r t x y p q = p.0 ∙ sym q.0

-- ---- the text

pub one_listing_text : (κs : _) (a : _) (r t : ℕ) (x y : _) → of_listing_text.Post κs a r x → of_listing_text.Post κs a t y →
    (r ≡ t) × (x.1.0.now ≡ y.1.0.now)
one_listing_text κs a r t x y p q = (p.0 ∙ sym q.0, p.1 ∙ sym q.1)

pub one_beside_text : (κs : _) (a : _) (r t : ℕ) (x y : _) → of_beside_text.Post κs a r x → of_beside_text.Post κs a t y →
    (r ≡ t) × (x.1.1.0.now ≡ y.1.1.0.now)
one_beside_text κs a r t x y p q = (p.0 ∙ sym q.0, p.1 ∙ sym q.1)

pub one_refusal_text : (κs : _) (a : _) (r t : ℕ) (x y : _) → of_refusal_text.Post κs a r x → of_refusal_text.Post κs a t y →
    (r ≡ t) × (x.1.1.0.now ≡ y.1.1.0.now)
one_refusal_text κs a r t x y p q = (p.0 ∙ sym q.0, p.1 ∙ sym q.1)

pub one_numbers_text : (κs : _) (a : _) (r t : ℕ) (x y : _) → of_numbers_text.Post κs a r x → of_numbers_text.Post κs a t y →
    (r ≡ t) × (x.1.0.now ≡ y.1.0.now)
one_numbers_text κs a r t x y p q = (p.0 ∙ sym q.0, p.1 ∙ sym q.1)

pub one_timed_text : (κs : _) (a : _) (r t : ℕ) (x y : _) → of_timed_text.Post κs a r x → of_timed_text.Post κs a t y →
    (r ≡ t) × (x.1.1.0.now ≡ y.1.1.0.now)
one_timed_text κs a r t x y p q = (p.0 ∙ sym q.0, p.1 ∙ sym q.1)

pub one_titles_text : (κs : _) (a : _) (r t : ℕ) (x y : _) → of_titles_text.Post κs a r x → of_titles_text.Post κs a t y →
    (r ≡ t) × (x.1.1.0.now ≡ y.1.1.0.now)
one_titles_text κs a r t x y p q = (p.0 ∙ sym q.0, p.1 ∙ sym q.1)

pub one_part_by : (κs : _) (a : _) (r t : _) (x y : _) → of_part_by.Post κs a r x → of_part_by.Post κs a t y →
    x.1.0.now ≡ y.1.0.now
one_part_by κs a r t x y p q = p ∙ sym q

pub one_word_of : (κs : _) (a : _) (r t : Option ℕ) (x y : _) → of_word_of.Post κs a r x → of_word_of.Post κs a t y → r ≡ t
one_word_of κs a r t x y p q = p ∙ sym (q)

pub one_same : (κs : _) (a : _) (r t : Bool) (x y : _) → of_same.Post κs a r x → of_same.Post κs a t y → r ≡ t
one_same κs a r t x y p q = p ∙ sym (q)

pub one_around_text : (κs : _) (a : _) (r t : ℕ) (x y : _) → of_around_text.Post κs a r x → of_around_text.Post κs a t y →
    (r ≡ t) × (x.1.1.1.0.now ≡ y.1.1.1.0.now)
one_around_text κs a r t x y p q = (p.0 ∙ sym q.0, p.1 ∙ sym q.1)

-- ---- what the programs print

pub one_overhead_line : (κs : _) (a : _) (r t : ℕ) (x y : _) → of_overhead_line.Post κs a r x → of_overhead_line.Post κs a t y →
    (r ≡ t) × (x.1.0.now ≡ y.1.0.now)
one_overhead_line κs a r t x y p q = (p.0 ∙ sym q.0, p.1 ∙ sym q.1)

pub one_refusal_line : (κs : _) (a : _) (r t : ℕ) (x y : _) → of_refusal_line.Post κs a r x → of_refusal_line.Post κs a t y →
    (r ≡ t) × (x.1.1.0.now ≡ y.1.1.0.now)
one_refusal_line κs a r t x y p q = (p.0 ∙ sym q.0, p.1 ∙ sym q.1)

pub one_run_text : (κs : _) (a : _) (r t : ℕ) (x y : _) → of_run_text.Post κs a r x → of_run_text.Post κs a t y →
    (r ≡ t) × (x.1.0.now ≡ y.1.0.now)
one_run_text κs a r t x y p q = (p.0 ∙ sym q.0, p.1.0 ∙ sym q.1.0)

pub one_run_waiting_text : (κs : _) (a : _) (r t : ℕ) (x y : _) → of_run_waiting_text.Post κs a r x → of_run_waiting_text.Post κs a t y →
    (r ≡ t) × (x.1.0.now ≡ y.1.0.now)
one_run_waiting_text κs a r t x y p q = (p.0 ∙ sym q.0, p.1.0 ∙ sym q.1.0)

pub one_figures_text : (κs : _) (a : _) (r t : ℕ) (x y : _) → of_figures_text.Post κs a r x → of_figures_text.Post κs a t y →
    (r ≡ t) × (x.1.1.1.0.now ≡ y.1.1.1.0.now)
one_figures_text κs a r t x y p q = (p.0 ∙ sym q.0, p.1.0 ∙ sym q.1.0)

pub one_show_text : (κs : _) (a : _) (r t : ℕ) (x y : _) → of_show_text.Post κs a r x → of_show_text.Post κs a t y →
    (r ≡ t) × (x.1.0.now ≡ y.1.0.now)
one_show_text κs a r t x y p q = (p.0 ∙ sym q.0, p.1.0 ∙ sym q.1.0)

-- ---- what is made of a text

pub one_make_file : (κs : _) (a : _) (r t : MadeFile) (x y : _) → of_make_file.Post κs a r x → of_make_file.Post κs a t y → r ≡ t
one_make_file κs a r t x y p q = p.0 ∙ sym q.0

pub one_fault_text : (κs : _) (a : _) (r t : ℕ) (x y : _) → of_fault_text.Post κs a r x → of_fault_text.Post κs a t y →
    (r ≡ t) × (x.1.0.now ≡ y.1.0.now)
one_fault_text κs a r t x y p q = (p.0 ∙ sym q.0, p.1.0 ∙ sym q.1.0)

-- ---- the functions for other languages

pub one_told_setup : (κs : _) (a : _) (r t : SetupResult) (x y : _) → told_setup.Post κs a r x → told_setup.Post κs a t y → r ≡ t
one_told_setup κs a r t x y p q = p ∙ sym q

pub one_told_arrival : (κs : _) (a : _) (r t : ArrivalResult) (x y : _) → told_arrival.Post κs a r x → told_arrival.Post κs a t y → r ≡ t
one_told_arrival κs a r t x y p q = p ∙ sym q

pub one_told_pick : (κs : _) (a : _) (r t : PickResult) (x y : _) → told_pick.Post κs a r x → told_pick.Post κs a t y → r ≡ t
one_told_pick κs a r t x y p q = p ∙ sym q

pub one_told_sound : (κs : _) (a : _) (r t : Bool) (x y : _) → told_sound.Post κs a r x → told_sound.Post κs a t y → r ≡ t
one_told_sound κs a r t x y p q = p ∙ sym q

pub one_told_owed : (κs : _) (a : _) (r t : FigureResult) (x y : _) → told_owed.Post κs a r x → told_owed.Post κs a t y → r ≡ t
one_told_owed κs a r t x y p q = p ∙ sym q

pub one_told_wait : (κs : _) (a : _) (r t : FigureResult) (x y : _) → told_wait.Post κs a r x → told_wait.Post κs a t y → r ≡ t
one_told_wait κs a r t x y p q = p ∙ sym q

pub one_told_lag : (κs : _) (a : _) (r t : FigureResult) (x y : _) → told_lag.Post κs a r x → told_lag.Post κs a t y → r ≡ t
one_told_lag κs a r t x y p q = p ∙ sym q

pub one_told_waiting_bytes : (κs : _) (a : _) (r t : FigureResult) (x y : _) → told_waiting_bytes.Post κs a r x →
    told_waiting_bytes.Post κs a t y → r ≡ t
one_told_waiting_bytes κs a r t x y p q = p ∙ sym q

pub one_told_run : (κs : _) (a : _) (r t : RunResult) (x y : _) → told_run.Post κs a r x → told_run.Post κs a t y →
    (r ≡ t) × (x.1.0.now ≡ y.1.0.now)
one_told_run κs a r t x y p q = (p.0 ∙ sym q.0, p.1 ∙ sym q.1)

-- nothing is lost by the names: two answers that are told as one struct are one, and so are the states beside them
pub told_setup_apart : (v w : Result (Unit {0}) Refused) (s t : State) → setup_told (reply (verdict_paper v) s) ≡ setup_told (reply (verdict_paper w) t) →
    (v ≡ w) × (s ≡ t)
told_setup_apart = told.setup_apart

pub told_arrival_apart : (a b : Result (Unit {0}) Refusal) (s t : State) →
    arrival_told (reply (arrival_paper a) s) ≡ arrival_told (reply (arrival_paper b) t) → (a ≡ b) × (s ≡ t)
told_arrival_apart = told.arrival_apart

pub told_pick_apart : (a b : PickAnswer) (s t : State) → pick_told (reply (pick_paper a) s) ≡ pick_told (reply (pick_paper b) t) →
    (a ≡ b) × (s ≡ t)
told_pick_apart = told.pick_apart

pub told_figure_apart : (a b : Result ℕ Refusal) → figure_told (figure_paper a) ≡ figure_told (figure_paper b) → a ≡ b
told_figure_apart = told.figure_apart

pub told_run_apart : (v w : Result (Unit {0}) Refused) → run_told (verdict_paper v) ≡ run_told (verdict_paper w) → v ≡ w
told_run_apart = told.run_apart
