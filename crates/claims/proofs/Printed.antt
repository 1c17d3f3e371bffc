-- What `run_text`, `run_waiting_text` and `figures_text` give for document 01's run in full, by the definitions that they meet, as
-- theorems about its 92 bytes, also with an overhead; and its text form, as theorems about the text.
use mathlib.Core.Path.{◌≡◌, refl, sym, ap, ◌∙◌}
use mathlib.Core.Bool.{Bool, true, false, cond}
use mathlib.Core.List.{List, [], ◌∷◌, ◌++◌}
use Prim.Native.Nat.{ℕ, ◌+◌, ◌*◌, ◌-◌, ◌/◌, ◌<◌}
use lib.Dec.{eqb, lit<}
use lib.ListN.{set}
use Rattle.drr.specs.declared.Table.{Table}
use Rattle.drr.specs.State.{quantum_of, maximum_of}
use Rattle.drr.specs.Facts.{Ranged}
use Rattle.drr.specs.Setup.{terms_of, table_for, setup_answer, setup_table}
use Rattle.drr.specs.Figures.{all_quanta, lag, owed, wait}
use Rattle.drr.specs.Arrival.{arrival_of}
use Rattle.drr.specs.Pick.{first_of}
use Rattle.drr.specs.Computed.{look_for}
use Rattle.drr.proofs.Tables.{made_ranged}
use Rattle.runfile.specs.File.{flows_in, header_answer, file_answer, flows_reply}
use Rattle.runfile.specs.Run.{calls}
use Rattle.runfile.specs.Listing.{listing}
use Rattle.text.specs.Text.{places, decimal, form_text, kinds, form_in, line_text, beside_text, listing_text}
use Rattle.text.specs.Text.{numbers_text, time_text, timed_text, titles_text, parted}
use Rattle.text.proofs.Rows.{parted_space}
use Rattle.figures.specs.Time.{wait_time}
use Rattle.std.specs.Int.{div_ceil}
use Rattle.figures.proofs.Laws.{time_from}
use Rattle.figures.proofs.Vectors.{waits, owes}
use Rattle.answers.specs.declared.Dress.{Dress}
use Rattle.answers.specs.Printed.{run_text, waiting_text, answer_text, overhead_text, flow_figures, flow_line, flow_lines, plain, figures_text}
use Rattle.text.specs.Spelt.{spelt}
use Rattle.textform.specs.declared.Want.TheVariants as want
use Rattle.std.specs.Prelude.{Err}
use Rattle.textform.specs.Grammar.{item_of}
use Rattle.textform.specs.Made.{outcome_of, file_of, made_bytes, making_of, fault_at}
use Rattle.textform.specs.Shown.{text_of, shown_text}
use Rattle.textform.specs.Words.{fault_text}

-- ---- "A run in full": its 92 bytes
-- "Tables at 20 and 44, length 92. Flows: 0 has Q 500, l 800; 1 has 300, 800; 2 has 400, 600."
-- "Events (tick, flow, length): 0 0 200; 0 0 750; 0 1 500; 0 2 400; 100 2 700; 900 1 250."
abbrev pub worked : List ℕ
worked =
    3 ∷ 0 ∷ 6 ∷ 0 ∷ 20 ∷ 0 ∷ 0 ∷ 0 ∷ 44 ∷ 0 ∷ 0 ∷ 0 ∷ 92 ∷ 0 ∷ 0 ∷ 0 ∷ 0 ∷ 0 ∷ 0 ∷ 0 ∷
    244 ∷ 1 ∷ 0 ∷ 0 ∷ 32 ∷ 3 ∷ 0 ∷ 0 ∷
    44 ∷ 1 ∷ 0 ∷ 0 ∷ 32 ∷ 3 ∷ 0 ∷ 0 ∷
    144 ∷ 1 ∷ 0 ∷ 0 ∷ 88 ∷ 2 ∷ 0 ∷ 0 ∷
    0 ∷ 0 ∷ 0 ∷ 0 ∷ 0 ∷ 0 ∷ 200 ∷ 0 ∷
    0 ∷ 0 ∷ 0 ∷ 0 ∷ 0 ∷ 0 ∷ 238 ∷ 2 ∷
    0 ∷ 0 ∷ 0 ∷ 0 ∷ 1 ∷ 0 ∷ 244 ∷ 1 ∷
    0 ∷ 0 ∷ 0 ∷ 0 ∷ 2 ∷ 0 ∷ 144 ∷ 1 ∷
    100 ∷ 0 ∷ 0 ∷ 0 ∷ 2 ∷ 0 ∷ 188 ∷ 2 ∷
    132 ∷ 3 ∷ 0 ∷ 0 ∷ 1 ∷ 0 ∷ 250 ∷ 0 ∷
    []

-- .. and the text that it names
abbrev pub worked_text : List ℕ
worked_text =
    spelt "S 0 0 200 300 1\n" ++
    spelt "D 100 2 700 3\n" ++
    spelt "S 200 2 400 0 2\n" ++
    spelt "S 600 0 750 50 1\n" ++
    spelt "S 1350 1 500 100 1\n" ++
    spelt "S 1850 1 250 150 1\n" ++
    spelt "E 2100 5 1\n"

pub worked_printed : run_text worked ≡ worked_text
unfolding run_text file_answer header_answer arrival_of first_of look_for calls listing beside_text line_text kinds decimal places
worked_printed = refl

-- .. with the bytes that wait in each line's flow, as `drrrun --waiting` prints it: by hand from the events
abbrev pub worked_waiting_text : List ℕ
worked_waiting_text =
    spelt "S 0 0 200 300 1 750\n" ++
    spelt "D 100 2 700 3 400\n" ++
    spelt "S 200 2 400 0 2 0\n" ++
    spelt "S 600 0 750 50 1 0\n" ++
    spelt "S 1350 1 500 100 1 250\n" ++
    spelt "S 1850 1 250 150 1 0\n" ++
    spelt "E 2100 5 1\n"

pub worked_waiting : waiting_text worked ≡ worked_waiting_text
unfolding waiting_text file_answer header_answer arrival_of first_of look_for calls listing beside_text line_text kinds decimal places
worked_waiting = refl

-- ---- without the option nothing stands beside a line: of six numbers, the letter and the fields of the line's form
none_beside : (t : Bool) → cond {A = List ℕ} t [] [] ≡ []
none_beside true = refl
none_beside false = refl

pub plain_listing : (k a b c d e : ℕ) (more : List ℕ) → listing_text (k ∷ a ∷ b ∷ c ∷ d ∷ e ∷ more)
    ≡ form_text (form_in kinds k) (a ∷ b ∷ c ∷ d ∷ e ∷ []) [] ++ cond (eqb k 3) [] (listing_text more)
unfolding beside_text line_text
plain_listing k a b c d e more =
    ap (λ (w : List ℕ). form_text (form_in kinds k) (a ∷ b ∷ c ∷ d ∷ e ∷ []) w ++ cond (eqb k 3) [] (listing_text more))
    (none_beside (eqb k 3))

-- ---- .. and of its flows' figures: `drrfigures 10000 100000 1000000`
abbrev pub worked_sizes : List ℕ
worked_sizes = 10000 ∷ 100000 ∷ 1000000 ∷ []

abbrev pub worked_figures_text : List ℕ
worked_figures_text =
    spelt "0 500 800 1610000 3221 2825 40325 415325\n" ++
    spelt "1 300 800 1410000 4701 1325 23825 248825\n" ++
    spelt "2 400 600 1440000 3601 2134 32134 332134\n"

-- a figure of a table, by what division gives
module _ (T : Table) (ranged : Ranged T) (i : ℕ) (low : i < T.n) where
  abbrev by_wait : ℕ
  by_wait = lag T i / quantum_of T i + 1

  abbrev by_owed : ℕ → ℕ
  by_owed S = (quantum_of T i * S - lag T i + (all_quanta T - 1)) / all_quanta T

  line_is : flow_figures T worked_sizes i
      ≡ i ∷ quantum_of T i ∷ maximum_of T i ∷ lag T i ∷ by_wait ∷ by_owed 10000 ∷ by_owed 100000 ∷ by_owed 1000000 ∷ []
  line_is =
      let w : wait T i ≡ by_wait = waits ranged i low refl in
      let o : (S : ℕ) → owed T i S ≡ by_owed S = λ S. owes ranged i low S refl in
      λ j. i ∷ quantum_of T i ∷ maximum_of T i ∷ lag T i ∷ w j ∷ o 10000 j ∷ o 100000 j ∷ o 1000000 j ∷ []

abbrev T₀ : Table
T₀ = table_for (flows_in worked) (terms_of 0)

ranged : Ranged T₀
unfolding setup_answer
ranged = made_ranged (flows_in worked) (terms_of 0) refl

pub worked_figures : figures_text worked worked_sizes plain ≡ worked_figures_text
unfolding figures_text flows_reply header_answer setup_answer setup_table decimal places
worked_figures =
    λ j. parted 32
    (numbers_text (line_is T₀ ranged 0 (lit< tt) j) ++ (numbers_text (line_is T₀ ranged 1 (lit< tt) j)
    ++ (numbers_text (line_is T₀ ranged 2 (lit< tt) j) ++ [])))

-- ---- the same file with an overhead of 20: byte 16 alone differs. By hand from the events: flow 2's 420 does not fit its first 400
abbrev pub raised : List ℕ
raised = set worked 16 20

abbrev pub raised_text : List ℕ
raised_text =
    spelt "S 0 0 200 280 1\n" ++
    spelt "D 100 2 700 3\n" ++
    spelt "S 220 0 750 10 3\n" ++
    spelt "S 990 1 500 80 1\n" ++
    spelt "S 1510 2 400 380 1\n" ++
    spelt "S 1930 1 250 110 1\n" ++
    spelt "E 2200 5 1\n"

pub overhead_printed : run_text raised ≡ raised_text
unfolding run_text file_answer header_answer arrival_of first_of look_for calls listing beside_text line_text kinds decimal places
overhead_printed = refl

abbrev pub raised_figures : List ℕ
raised_figures =
    spelt "overhead 20\n" ++
    spelt "0 500 800 1644000 3289 2797 40297 415297\n" ++
    spelt "1 300 800 1440000 4801 1300 23800 248800\n" ++
    spelt "2 400 600 1472000 3681 2107 32107 332107\n"

abbrev T₂₀ : Table
T₂₀ = table_for (flows_in raised) (terms_of 20)

raised_ranged : Ranged T₂₀
unfolding setup_answer
raised_ranged = made_ranged (flows_in raised) (terms_of 20) refl

pub overhead_figures : figures_text raised worked_sizes plain ≡ raised_figures
unfolding figures_text flows_reply header_answer setup_answer setup_table decimal places
overhead_figures =
    λ j. parted 32
    (overhead_text 20 ++ (numbers_text (line_is T₂₀ raised_ranged 0 (lit< tt) j) ++ (numbers_text (line_is T₂₀ raised_ranged 1 (lit< tt) j)
    ++ (numbers_text (line_is T₂₀ raised_ranged 2 (lit< tt) j) ++ []))))

-- ---- without options the fields are parted by spaces: the overhead's line where it is not 0, a line of numbers for each flow, and
-- nothing else
pub plain_line : (T : Table) (sizes : List ℕ) (f : ℕ) → flow_line T sizes 0 f ≡ numbers_text (flow_figures T sizes f)
plain_line T sizes f = refl

pub plain_figures : (b sizes : List ℕ) → let T = (flows_reply b).state.table in
    figures_text b sizes plain ≡ answer_text (flows_reply b).answer (overhead_text T.overhead ++ flow_lines T sizes 0 0 T.n)
unfolding figures_text
plain_figures b sizes =
    let T = (flows_reply b).state.table in
    ap (answer_text (flows_reply b).answer) (parted_space (overhead_text T.overhead ++ flow_lines T sizes 0 0 T.n))

-- ---- with titles, commas, and the time at 10 million bits a second: `drrfigures --header --csv --rate 10000000 10000 1000000`
abbrev pub csv : Dress
csv = record { parting = 44; titled = true; rate = 10000000 }

abbrev pub worked_table : List ℕ
worked_table =
    spelt "flow,quantum,maximum,C,wait,owed_10000,owed_1000000,wait_seconds\n" ++
    spelt "0,500,800,1610000,3221,2825,415325,0.00257680\n" ++
    spelt "1,300,800,1410000,4701,1325,248825,0.00376080\n" ++
    spelt "2,400,600,1440000,3601,2134,332134,0.00288080\n"

module _ (i : ℕ) (low : i < T₀.n) where
  abbrev by_time : ℕ
  by_time = div_ceil (by_wait T₀ ranged i low * 8 * 100000000) 10000000

  timed_is : timed_text (flow_figures T₀ (10000 ∷ 1000000 ∷ []) i) (wait_time T₀ i 10000000)
      ≡ timed_text (i ∷ quantum_of T₀ i ∷ maximum_of T₀ i ∷ lag T₀ i ∷ by_wait T₀ ranged i low
      ∷ by_owed T₀ ranged i low 10000 ∷ by_owed T₀ ranged i low 1000000 ∷ []) by_time
  timed_is =
      let w : wait T₀ i ≡ by_wait T₀ ranged i low = waits ranged i low refl in
      let o : (S : ℕ) → owed T₀ i S ≡ by_owed T₀ ranged i low S = λ S. owes ranged i low S refl in
      let t : wait_time T₀ i 10000000 ≡ by_time =
      sym (time_from T₀ i 10000000 (lit< tt)) ∙ ap (λ (x : ℕ). div_ceil (x * 8 * 100000000) 10000000) w in
      λ j. timed_text (i ∷ quantum_of T₀ i ∷ maximum_of T₀ i ∷ lag T₀ i ∷ w j ∷ o 10000 j ∷ o 1000000 j ∷ []) (t j)

pub worked_dressed : figures_text worked (10000 ∷ 1000000 ∷ []) csv ≡ worked_table
unfolding figures_text flows_reply header_answer setup_answer setup_table decimal places time_text
worked_dressed =
    λ j. parted 44
    (titles_text (10000 ∷ 1000000 ∷ []) true
    ++ (timed_is 0 (lit< tt) j ++ (timed_is 1 (lit< tt) j ++ (timed_is 2 (lit< tt) j ++ []))))

-- ---- the same run in the text form: what `drrshow` prints of its bytes, and what `drrmake` makes them from
abbrev pub worked_records : List ℕ
worked_records =
    spelt "flow 500 800\nflow 300 800\nflow 400 600\n" ++
    spelt "event 0 0 200\nevent 0 0 750\nevent 0 1 500\nevent 0 2 400\nevent 100 2 700\nevent 900 1 250\n"

pub worked_shown : shown_text worked ≡ worked_records
unfolding shown_text text_of file_answer header_answer setup_answer decimal places
worked_shown = refl

pub worked_made : made_bytes worked_records ≡ worked
unfolding made_bytes outcome_of item_of file_of
worked_made = refl

-- .. and with the overhead, which is said first
pub overhead_shown : shown_text raised ≡ spelt "overhead 20\n" ++ worked_records
unfolding shown_text text_of file_answer header_answer setup_answer decimal places
overhead_shown = refl

pub overhead_made : made_bytes (spelt "overhead 20\n" ++ worked_records) ≡ raised
unfolding made_bytes outcome_of item_of file_of
overhead_made = refl

-- .. and a text with a fault in its second line: what `make_file` answers, and the line that `fault_text` gives of that
abbrev pub faulty : List ℕ
faulty = spelt "flow 500 800\nflow 300,5 800\n"

pub faulty_told : (making_of faulty ≡ Err (fault_at 2 want.Quantum)) ×
    (fault_text 2 want.Quantum ≡ spelt "line 2: expected a quantum, 1 to 65535\n")
unfolding making_of outcome_of item_of decimal places
faulty_told = (refl, refl)
