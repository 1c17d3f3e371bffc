-- Each public function meets its contract: its `statement` is that it returns from every call that meets what it asks, and then
-- meets the `ensures` in its source. Only `pick_in`, `book` and `charge_of`, which a run calls on a line that it keeps sound, and `le2`
-- and `le4`, which read inside a table that is tested, ask anything.
use Rattle.drr.proofs.refusal_number.Statement as refusal_number
use Rattle.drr.proofs.refusal_number.Met as refusal_number_met
use Rattle.drr.proofs.common_of.Statement as common_of
use Rattle.drr.proofs.common_of.Met as common_of_met
use Rattle.drr.proofs.RefusedFromRefusal.from.Statement as refused_from
use Rattle.drr.proofs.RefusedFromRefusal.from.Met as refused_from_met
use Rattle.widths.proofs.usize_of_u8.Statement as usize_of_u8
use Rattle.widths.proofs.usize_of_u8.Met as usize_of_u8_met
use Rattle.widths.proofs.usize_of_u32.Statement as usize_of_u32
use Rattle.widths.proofs.usize_of_u32.Met as usize_of_u32_met
use Rattle.widths.proofs.u64_of_u32.Statement as u64_of_u32
use Rattle.widths.proofs.u64_of_u32.Met as u64_of_u32_met
use Rattle.widths.proofs.u64_of_usize.Statement as u64_of_usize
use Rattle.widths.proofs.u64_of_usize.Met as u64_of_usize_met
use Rattle.scheduler.proofs.sound.Statement as sound
use Rattle.scheduler.proofs.sound.Met as sound_met
use Rattle.scheduler.proofs.arrival.Statement as arrival
use Rattle.scheduler.proofs.arrival.Met as arrival_met
use Rattle.scheduler.proofs.pick.Statement as pick
use Rattle.scheduler.proofs.pick.Met as pick_met
use Rattle.scheduler.proofs.sound_line.Statement as sound_line
use Rattle.scheduler.proofs.sound_line.Met as sound_line_met
use Rattle.scheduler.proofs.flows.setup.Statement as setup
use Rattle.scheduler.proofs.flows.setup.Met as setup_met
use Rattle.scheduler.proofs.flows.setup_of.Statement as setup_of
use Rattle.scheduler.proofs.flows.setup_of.Met as setup_of_met
use Rattle.scheduler.proofs.flows.table_of.Statement as table_of
use Rattle.scheduler.proofs.flows.table_of.Met as table_of_met
use Rattle.scheduler.proofs.flows.refused.Statement as refused
use Rattle.scheduler.proofs.flows.refused.Met as refused_met
use Rattle.scheduler.proofs.flows.made.Statement as made
use Rattle.scheduler.proofs.flows.made.Met as made_met
use Rattle.scheduler.proofs.flows.fresh.Statement as fresh
use Rattle.scheduler.proofs.flows.fresh.Met as fresh_met
use Rattle.engine.proofs.sound_in.Statement as sound_in
use Rattle.engine.proofs.sound_in.Met as sound_in_met
use Rattle.engine.proofs.pick_in.Statement as pick_in
use Rattle.engine.proofs.pick_in.Met as pick_in_met
use Rattle.engine.proofs.charge_of.Statement as charge_of
use Rattle.engine.proofs.charge_of.Met as charge_of_met
use Rattle.engine.proofs.book.Statement as book
use Rattle.engine.proofs.book.Met as book_met
use Rattle.figures.proofs.owed.Statement as owed
use Rattle.figures.proofs.owed.Met as owed_met
use Rattle.figures.proofs.wait.Statement as wait
use Rattle.figures.proofs.wait.Met as wait_met
use Rattle.figures.proofs.wait_time.Statement as wait_time
use Rattle.figures.proofs.wait_time.Met as wait_time_met
use Rattle.figures.proofs.lag.Statement as lag
use Rattle.figures.proofs.lag.Met as lag_met
use Rattle.figures.proofs.waiting_bytes.Statement as waiting_bytes
use Rattle.figures.proofs.waiting_bytes.Met as waiting_bytes_met
use Rattle.figures.proofs.value_of.Statement as value_of_lem
use Rattle.figures.proofs.value_of.Met as value_of_met
use Rattle.figures.proofs.all_figures.Statement as all_figures
use Rattle.figures.proofs.all_figures.Met as all_figures_met
use Rattle.runfile.proofs.reader.read.Statement as read
use Rattle.runfile.proofs.reader.read.Met as read_met
use Rattle.runfile.proofs.reader.read_flows.Statement as read_flows
use Rattle.runfile.proofs.reader.read_flows.Met as read_flows_met
use Rattle.runfile.proofs.fields.le2.Statement as le2
use Rattle.runfile.proofs.fields.le2.Met as le2_met
use Rattle.runfile.proofs.fields.le4.Statement as le4
use Rattle.runfile.proofs.fields.le4.Met as le4_met
use Rattle.runfile.proofs.run.Statement as run
use Rattle.runfile.proofs.run.Met as run_met
use Rattle.runfile.proofs.run_waiting.Statement as run_waiting
use Rattle.runfile.proofs.run_waiting.Met as run_waiting_met
use Rattle.text.proofs.listing_text.Statement as listing_text
use Rattle.text.proofs.listing_text.Met as listing_text_met
use Rattle.text.proofs.beside_text.Statement as beside_text
use Rattle.text.proofs.beside_text.Met as beside_text_met
use Rattle.text.proofs.refusal_text.Statement as refusal_text
use Rattle.text.proofs.refusal_text.Met as refusal_text_met
use Rattle.text.proofs.numbers_text.Statement as numbers_text
use Rattle.text.proofs.numbers_text.Met as numbers_text_met
use Rattle.text.proofs.timed_text.Statement as timed_text
use Rattle.text.proofs.timed_text.Met as timed_text_met
use Rattle.text.proofs.titles_text.Statement as titles_text
use Rattle.text.proofs.titles_text.Met as titles_text_met
use Rattle.text.proofs.part_by.Statement as part_by
use Rattle.text.proofs.part_by.Met as part_by_met
use Rattle.text.proofs.word_of.Statement as word_of
use Rattle.text.proofs.word_of.Met as word_of_met
use Rattle.text.proofs.same.Statement as same
use Rattle.text.proofs.same.Met as same_met
use Rattle.text.proofs.around_text.Statement as around_text
use Rattle.text.proofs.around_text.Met as around_text_met
use Rattle.answers.proofs.overhead_line.Statement as overhead_line
use Rattle.answers.proofs.overhead_line.Met as overhead_line_met
use Rattle.answers.proofs.refusal_line.Statement as refusal_line
use Rattle.answers.proofs.refusal_line.Met as refusal_line_met
use Rattle.answers.proofs.run_text.Statement as run_text
use Rattle.answers.proofs.run_text.Met as run_text_met
use Rattle.answers.proofs.run_waiting_text.Statement as run_waiting_text
use Rattle.answers.proofs.run_waiting_text.Met as run_waiting_text_met
use Rattle.answers.proofs.figures_text.Statement as figures_text
use Rattle.answers.proofs.figures_text.Met as figures_text_met
use Rattle.textform.proofs.show.show_text.Statement as show_text
use Rattle.textform.proofs.show.show_text.Met as show_text_met
use Rattle.textform.proofs.make.make_file.Statement as make_file
use Rattle.textform.proofs.make.make_file.Met as make_file_met
use Rattle.textform.proofs.told.fault_text.Statement as fault_text
use Rattle.textform.proofs.told.fault_text.Met as fault_text_met
use Rattle.exports.proofs.wikulambag_setup.Statement as told_setup
use Rattle.exports.proofs.wikulambag_setup.Met as told_setup_met
use Rattle.exports.proofs.wikulambag_sound.Statement as told_sound
use Rattle.exports.proofs.wikulambag_sound.Met as told_sound_met
use Rattle.exports.proofs.wikulambag_arrival.Statement as told_arrival
use Rattle.exports.proofs.wikulambag_arrival.Met as told_arrival_met
use Rattle.exports.proofs.wikulambag_pick.Statement as told_pick
use Rattle.exports.proofs.wikulambag_pick.Met as told_pick_met
use Rattle.exports.proofs.wikulambag_owed.Statement as told_owed
use Rattle.exports.proofs.wikulambag_owed.Met as told_owed_met
use Rattle.exports.proofs.wikulambag_wait.Statement as told_wait
use Rattle.exports.proofs.wikulambag_wait.Met as told_wait_met
use Rattle.exports.proofs.wikulambag_lag.Statement as told_lag
use Rattle.exports.proofs.wikulambag_lag.Met as told_lag_met
use Rattle.exports.proofs.wikulambag_waiting_bytes.Statement as told_waiting_bytes
use Rattle.exports.proofs.wikulambag_waiting_bytes.Met as told_waiting_bytes_met
use Rattle.exports.proofs.wikulambag_run.Statement as told_run
use Rattle.exports.proofs.wikulambag_run.Met as told_run_met

-- ---- drr, widths
pub refusal_number_meets : {M : Type 1} → refusal_number.statement M
refusal_number_meets = refusal_number_met.met

pub common_of_meets : {M : Type 1} → common_of.statement M
common_of_meets = common_of_met.met

pub refused_from_meets : {M : Type 1} → refused_from.statement M
refused_from_meets = refused_from_met.met

pub usize_of_u8_meets : {M : Type 1} → usize_of_u8.statement M
usize_of_u8_meets = usize_of_u8_met.met

pub usize_of_u32_meets : {M : Type 1} → usize_of_u32.statement M
usize_of_u32_meets = usize_of_u32_met.met

pub u64_of_u32_meets : {M : Type 1} → u64_of_u32.statement M
u64_of_u32_meets = u64_of_u32_met.met

pub u64_of_usize_meets : {M : Type 1} → u64_of_usize.statement M
u64_of_usize_meets = u64_of_usize_met.met

-- ---- the scheduler: any numbers, any state, any list
pub sound_meets : {M : Type 1} → sound.statement M
sound_meets = sound_met.met

pub arrival_meets : {M : Type 1} → arrival.statement M
arrival_meets = arrival_met.met

pub pick_meets : {M : Type 1} → pick.statement M
pick_meets = pick_met.met

pub sound_line_meets : {M : Type 1} → sound_line.statement M
sound_line_meets = sound_line_met.met

pub setup_meets : {M : Type 1} → setup.statement M
setup_meets = setup_met.met

pub setup_of_meets : {M : Type 1} → setup_of.statement M
setup_of_meets = setup_of_met.met

pub table_of_meets : {M : Type 1} → table_of.statement M
table_of_meets = table_of_met.met

pub made_meets : {M : Type 1} → made.statement M
made_meets = made_met.met

pub refused_meets : {M : Type 1} → refused.statement M
refused_meets = refused_met.met

pub fresh_meets : {M : Type 1} → fresh.statement M
fresh_meets = fresh_met.met

-- ---- the steps beneath it
pub sound_in_meets : {M : Type 1} → sound_in.statement M
sound_in_meets = sound_in_met.met

pub pick_in_meets : {M : Type 1} → pick_in.statement M
pick_in_meets = pick_in_met.met

pub charge_of_meets : {M : Type 1} → charge_of.statement M
charge_of_meets = charge_of_met.met

pub book_meets : {M : Type 1} → book.statement M
book_meets = book_met.met

-- ---- the figures
pub owed_meets : {M : Type 1} → owed.statement M
owed_meets = owed_met.met

pub wait_meets : {M : Type 1} → wait.statement M
wait_meets = wait_met.met

pub wait_time_meets : {M : Type 1} → wait_time.statement M
wait_time_meets = wait_time_met.met

pub lag_meets : {M : Type 1} → lag.statement M
lag_meets = lag_met.met

pub waiting_bytes_meets : {M : Type 1} → waiting_bytes.statement M
waiting_bytes_meets = waiting_bytes_met.met

pub value_of_meets : {M : Type 1} → value_of_lem.statement M
value_of_meets = value_of_met.met

pub all_figures_meets : {M : Type 1} → all_figures.statement M
all_figures_meets = all_figures_met.met

-- ---- any bytes at all, and any lent list
pub read_meets : {M : Type 1} → read.statement M
read_meets = read_met.met

pub read_flows_meets : {M : Type 1} → read_flows.statement M
read_flows_meets = read_flows_met.met

pub run_meets : {M : Type 1} → run.statement M
run_meets = run_met.met

pub run_waiting_meets : {M : Type 1} → run_waiting.statement M
run_waiting_meets = run_waiting_met.met

-- .. and numbers that lie inside the bytes
pub le2_meets : {M : Type 1} → le2.statement M
le2_meets = le2_met.met

pub le4_meets : {M : Type 1} → le4.statement M
le4_meets = le4_met.met

-- ---- the text
pub listing_text_meets : {M : Type 1} → listing_text.statement M
listing_text_meets = listing_text_met.met

pub beside_text_meets : {M : Type 1} → beside_text.statement M
beside_text_meets = beside_text_met.met

pub refusal_text_meets : {M : Type 1} → refusal_text.statement M
refusal_text_meets = refusal_text_met.met

pub numbers_text_meets : {M : Type 1} → numbers_text.statement M
numbers_text_meets = numbers_text_met.met

pub timed_text_meets : {M : Type 1} → timed_text.statement M
timed_text_meets = timed_text_met.met

pub titles_text_meets : {M : Type 1} → titles_text.statement M
titles_text_meets = titles_text_met.met

pub part_by_meets : {M : Type 1} → part_by.statement M
part_by_meets = part_by_met.met

pub word_of_meets : {M : Type 1} → word_of.statement M
word_of_meets = word_of_met.met

pub same_meets : {M : Type 1} → same.statement M
same_meets = same_met.met

pub around_text_meets : {M : Type 1} → around_text.statement M
around_text_meets = around_text_met.met

-- ---- what the programs print: any bytes, and any lent buffer
pub overhead_line_meets : {M : Type 1} → overhead_line.statement M
overhead_line_meets = overhead_line_met.met

pub refusal_line_meets : {M : Type 1} → refusal_line.statement M
refusal_line_meets = refusal_line_met.met

pub run_text_meets : {M : Type 1} → run_text.statement M
run_text_meets = run_text_met.met

pub run_waiting_text_meets : {M : Type 1} → run_waiting_text.statement M
run_waiting_text_meets = run_waiting_text_met.met

pub figures_text_meets : {M : Type 1} → figures_text.statement M
figures_text_meets = figures_text_met.met

pub show_text_meets : {M : Type 1} → show_text.statement M
show_text_meets = show_text_met.met

-- .. and what is made of a text: any bytes again
pub make_file_meets : {M : Type 1} → make_file.statement M
make_file_meets = make_file_met.met

pub fault_text_meets : {M : Type 1} → fault_text.statement M
fault_text_meets = fault_text_met.met

-- ---- the functions for other languages
pub told_setup_meets : {M : Type 1} → told_setup.statement M
told_setup_meets = told_setup_met.met

pub told_sound_meets : {M : Type 1} → told_sound.statement M
told_sound_meets = told_sound_met.met

pub told_arrival_meets : {M : Type 1} → told_arrival.statement M
told_arrival_meets = told_arrival_met.met

pub told_pick_meets : {M : Type 1} → told_pick.statement M
told_pick_meets = told_pick_met.met

pub told_owed_meets : {M : Type 1} → told_owed.statement M
told_owed_meets = told_owed_met.met

pub told_wait_meets : {M : Type 1} → told_wait.statement M
told_wait_meets = told_wait_met.met

pub told_lag_meets : {M : Type 1} → told_lag.statement M
told_lag_meets = told_lag_met.met

pub told_waiting_bytes_meets : {M : Type 1} → told_waiting_bytes.statement M
told_waiting_bytes_meets = told_waiting_bytes_met.met

pub told_run_meets : {M : Type 1} → told_run.statement M
told_run_meets = told_run_met.met
