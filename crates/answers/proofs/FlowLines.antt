-- What is printed of a file's flows, a line each.
use mathlib.Core.Path.{◌≡◌, refl, sym, ap, subst, ◌∙◌}
use mathlib.Core.Bool.{Bool, true, false, cond}
use mathlib.Core.List.{List, [], ◌∷◌, ◌++◌, map, append-nil, append_assoc}
use Prim.Native.Nat.{ℕ, zero, suc, ◌+◌, ◌*◌, ◌-◌, ◌/◌, ◌≤◌, ◌<◌}
use native.Mathlib.Omega.{arith}
use borrow.Author.Tests.{le-ltb, lt-ltb, lt-leb}
use lib.Dec.{eqb, ltb}
use lib.ListN.{length, take, drop, length-append, length-drop, length-map}
use lib.Seq.{sets-eq, length-sets, take-append_seam, drop-drop, drop-length}
use Rattle.drr.specs.Limits.{most_flows}
use Rattle.drr.specs.declared.State.{State}
use Rattle.drr.specs.declared.Table.{Table}
use Rattle.drr.specs.declared.Refusal.{Refusal}
use Rattle.drr.specs.Facts.{SoundState}
use Rattle.drr.specs.Sound.{sound_state}
use Rattle.drr.specs.Answers.{number_of, refused_at, Reply}
use Rattle.drr.specs.Figures.{owed, lag, wait}
use Rattle.drr.proofs.Bools.{by_test}
use Rattle.drr.proofs.Tables.{no_flows_ranged}
use Rattle.drr.proofs.Calls.{fresh_state_sound, setup_keeps}
use Rattle.runfile.specs.File.{header_answer, flows_in, terms_in, flows_reply}
use Rattle.figures.specs.Time.{wait_time}
use Rattle.figures.specs.Answers.{asked_answer, figure_is, value_of, time_answer, all_figures, figures_within}
use Rattle.text.specs.Text.{refusal_text, numbers_text, numbers_within, timed_text, timed_within}
use Rattle.text.specs.Text.{titles_text, titles_within, Put}
use Rattle.text.proofs.Texts.{Left, left_all, left_next, left_end, Filled, filled}
use Rattle.text.proofs.Lines.{to_end, numbers_most}
use Rattle.text.proofs.Rows.{timed_most, titles_most}
use Rattle.answers.specs.declared.Dress.{Dress}
use Rattle.answers.specs.Printed.{flow_figures, flow_line, flow_lines, titled_text, dressed_text, figures_text}
use Rattle.answers.specs.Printed.{row_room, flows_room, titled_room, most_sizes}
use Rattle.answers.proofs.Given.{refused_text, fine_text}

figures_length : (T : Table) (sizes : List ℕ) (f : ℕ) → length (flow_figures T sizes f) ≡ 5 + length sizes
figures_length T sizes f = omega (arith, length-map sizes (owed T f))

-- ---- the figures of a flow of a sound state, in a list of 21 numbers
module _ (s : State) (ok : sound_state s ≡ true) (f : ℕ) (below : f < s.table.n) where
  asked_fine : (figure : ℕ) → value_of (asked_answer s f (figure_is figure)) ≡ figure
  unfolding asked_answer
  asked_fine figure = rw (ok, lt-leb s.table.n f below)

  each_fine : (sizes : List ℕ) →
      map (λ S. value_of (asked_answer s f (figure_is (owed s.table f S)))) sizes ≡ map (owed s.table f) sizes
  each_fine [] = refl
  each_fine (S ∷ more) = λ i. asked_fine (owed s.table f S) i ∷ each_fine more i

  module _ (sizes : List ℕ) (few : length sizes ≤ most_sizes) where
    line_is : figures_within s f sizes 21 ≡ flow_figures s.table sizes f
    unfolding figures_within
    line_is =
        let enough : 5 + length sizes ≤ 21 = omega arith in
        let wide : figures_within s f sizes 21 ≡ all_figures s f sizes = rw (le-ltb 21 (5 + length sizes) enough) in
        let front : ℕ → ℕ → List ℕ → List ℕ = λ c w more. take 3 (flow_figures s.table sizes f) ++ c ∷ w ∷ more in
        wide ∙ (λ i. front (asked_fine (lag s.table f) i) (asked_fine (wait s.table f) i) (each_fine sizes i))

    -- it is what the list holds
    taken : (out list : List ℕ) (n : ℕ) → Filled (figures_within s f sizes 21) out list n → take n list ≡ flow_figures s.table sizes f
    taken out list n p =
        let w : List ℕ = figures_within s f sizes 21 in
        (λ i. take (p.0 i) (p.1 i)) ∙ take-append_seam w (drop (length w) out) ∙ line_is

    -- its text, in a buffer with room for a row, without a time and with one
    module _ (out list : List ℕ) (n room : ℕ) (p : Filled (figures_within s f sizes 21) out list n) (h : row_room ≤ room) where
      pub flow_text_lem : (rate : ℕ) → rate ≤ 0 → numbers_within (take n list) room ≡ flow_line s.table sizes rate f
      unfolding numbers_within
      flow_text_lem rate none =
          let row : List ℕ = flow_figures s.table sizes f in
          let fits : length row ≤ room / 21 = omega (arith, figures_length s.table sizes f) in
          rw (taken out list n p, le-ltb (room / 21) (length row) fits, le-ltb 0 rate none)

      pub timed_flow_text : (rate time : ℕ) → 0 < rate → time ≡ value_of (time_answer s f rate) →
          timed_within (take n list) time room ≡ flow_line s.table sizes rate f
      unfolding timed_within
      timed_flow_text rate time some is =
          let row : List ℕ = flow_figures s.table sizes f in
          let fits : length row + 1 ≤ room / 30 = omega (arith, figures_length s.table sizes f) in
          rw (
            taken out list n p,
            is ∙ asked_fine (wait_time s.table f rate),
            le-ltb (room / 30) (length row + 1) fits,
            lt-ltb 0 rate some,
          )

-- ---- the rows: 660 bytes for each are enough
module _ (T : Table) (sizes : List ℕ) (rate : ℕ) where
  line_by : (f : ℕ) (t : Bool) → length sizes ≤ most_sizes →
      length (cond t (timed_text (flow_figures T sizes f) (wait_time T f rate)) (numbers_text (flow_figures T sizes f))) ≤ row_room
  line_by f true few = omega (arith, timed_most (flow_figures T sizes f) (wait_time T f rate), figures_length T sizes f)
  line_by f false few = omega (arith, numbers_most (flow_figures T sizes f), figures_length T sizes f)

  pub flow_most : length sizes ≤ most_sizes → (f : ℕ) → length (flow_line T sizes rate f) ≤ row_room
  flow_most few f = line_by f (ltb 0 rate) few

  pub lines_most : length sizes ≤ most_sizes → (f k : ℕ) → length (flow_lines T sizes rate f k) ≤ row_room * k
  lines_most few f zero = omega arith
  lines_most few f (suc k) =
      omega (
        arith,
        length-append (flow_line T sizes rate f) (flow_lines T sizes rate (f + 1) k),
        flow_most few f,
        lines_most few (f + 1) k,
      )

  -- what is left to print before the first of n flows, before another, and after the last
  pub flows_first : (n : ℕ) (b : List ℕ) → length sizes ≤ most_sizes → n ≤ most_flows → flows_room ≤ length b →
      Left b 0 (flow_lines T sizes rate 0 n) b 0 (flow_lines T sizes rate 0 (n - 0))
  flows_first n b few low room =
      let all : n ≡ n - 0 = omega arith in
      subst (λ (k : ℕ). Left b 0 (flow_lines T sizes rate 0 n) b 0 (flow_lines T sizes rate 0 k)) all
      (left_all b 0 (flow_lines T sizes rate 0 n) (omega (arith, lines_most few 0 n)))

  pub flows_next : (n f : ℕ) → f < n →
      flow_lines T sizes rate f (n - f) ≡ flow_line T sizes rate f ++ flow_lines T sizes rate (f + 1) (n - (f + 1))
  flows_next n f h =
      let j : ℕ = n - (f + 1) in
      let e : n - f ≡ suc j = omega arith in
      ap (λ (k : ℕ). flow_lines T sizes rate f k) e

  pub flows_last : (n f : ℕ) → n ≤ f → flow_lines T sizes rate f (n - f) ≡ []
  flows_last n f h =
      let e : n - f ≡ 0 = omega arith in
      ap (λ (k : ℕ). flow_lines T sizes rate f k) e

-- ---- a text at the start of the part of a buffer that begins at `at` is put there
pub part_put : (b : List ℕ) (at : ℕ) (u part : List ℕ) (size : ℕ) → at + length u ≤ length b →
    Filled u (take (length b - at) (drop at b)) part size →
    Put b at u (take at b ++ (part ++ drop (length b - at) (drop at b))) (at + size)
part_put b at u part size fits p =
    let tail : List ℕ = drop at b in
    let behind : List ℕ = drop (at + length u) b in
    let none : drop (length b - at) tail ≡ [] = ap (λ (k : ℕ). drop k tail) (sym (length-drop at b)) ∙ drop-length tail in
    let is : part ≡ u ++ behind =
    p.1 ∙ ap (λ (z : List ℕ). u ++ drop (length u) z) (to_end at b) ∙ ap (λ (z : List ℕ). u ++ z) (drop-drop (length u) at b) in
    let whole : part ++ drop (length b - at) tail ≡ u ++ behind = ap (λ (z : List ℕ). part ++ z) none ∙ append-nil part ∙ is in (
      ap (λ (z : List ℕ). take at b ++ z) whole ∙ sym (append_assoc (take at b) u behind) ∙ sym (sets-eq u b at fits),
      ap (λ (k : ℕ). at + k) p.0,
    )

-- ---- titles and lines, one text behind the other at the start of a buffer
filled_put : (u b b' : List ℕ) (r : ℕ) → length u ≤ length b → Filled u b b' r → Put b 0 u b' r
filled_put u b b' r fits p =
    let e : 0 + length u ≡ length u = omega arith in (
      p.1 ∙ ap (λ (i : ℕ). u ++ drop i b) (sym e) ∙ sym (sets-eq u b 0 (omega arith)),
      p.0 ∙ sym e,
    )

pub two_filled : (u v b b' part : List ℕ) (at size : ℕ) → length u + length v ≤ length b →
    Filled u b b' at → Filled v (take (length b' - at) (drop at b')) part size →
    Filled (u ++ v) b (take at b' ++ (part ++ drop (length b' - at) (drop at b'))) (at + size)
two_filled u v b b' part at size fits p q =
    let whole : length (u ++ v) ≡ length u + length v = length-append u v in
    let first = filled_put u b b' at (omega arith) p in
    let same : length b' ≡ length b = ap length first.0 ∙ length-sets b 0 u in
    let rest = left_next (left_all b 0 (u ++ v) (omega (arith, whole))) u v refl b' at first same in
    let put = left_end rest v refl _ _ (part_put b' at v part size (omega (arith, p.0, same)) q) in
    filled 0 0 (u ++ v) b _ _ (omega arith) (omega (arith, whole)) put

-- the rows by whether they have titles, and room for the titles
module _ (T : Table) (sizes : List ℕ) (dress : Dress) where
  abbrev pub titles_of : List ℕ
  titles_of = titles_text sizes (ltb 0 dress.rate)

  abbrev pub lines_of : List ℕ
  lines_of = flow_lines T sizes dress.rate 0 T.n

  pub with_titles : dress.titled ≡ true → titles_of ++ lines_of ≡ titled_text T sizes dress
  with_titles e = ap (λ (t : Bool). cond t titles_of [] ++ lines_of) (sym e)

  pub without_titles : dress.titled ≡ false → lines_of ≡ titled_text T sizes dress
  without_titles e = ap (λ (t : Bool). cond t titles_of [] ++ lines_of) (sym e)

  module _ (few : length sizes ≤ most_sizes) where
    pub titles_fit : (room : ℕ) → row_room ≤ room → titles_within sizes (ltb 0 dress.rate) room ≡ titles_of
    unfolding titles_within
    titles_fit room h =
        let enough : length sizes + 6 ≤ room / 30 = omega arith in
        rw (le-ltb (room / 30) (length sizes + 6) enough)

    pub rows_most : T.n ≤ most_flows → (length titles_of ≤ row_room) × (length lines_of ≤ flows_room)
    rows_most low = (
      omega (arith, titles_most sizes (ltb 0 dress.rate)),
      omega (arith, lines_most T sizes dress.rate few 0 T.n),
    )

    pub titled_most : T.n ≤ most_flows → length (titled_text T sizes dress) ≤ titled_room
    titled_most low = by dress.titled
      where
        by : (t : Bool) → length (cond t titles_of [] ++ lines_of) ≤ titled_room
        by true = omega (arith, length-append titles_of lines_of, rows_most low)
        by false = omega (arith, (rows_most low).1)

-- ---- what the reader of the flows gave
module _ (b : List ℕ) where
  pub flows_sound : SoundState (flows_reply b).state
  unfolding flows_reply
  flows_sound =
      by_test (λ (r : Reply). SoundState r.state) (eqb (header_answer b).refusal 0)
      (λ _. setup_keeps (flows_in b) (terms_in b)) (λ _. fresh_state_sound no_flows_ranged)

  module _ (sizes : List ℕ) (dress : Dress) where
    pub figures_refusal : (why : Refusal) (place : ℕ) → refused_at (number_of why) place ≡ (flows_reply b).answer →
        refusal_text (number_of why) place ≡ figures_text b sizes dress
    unfolding figures_text
    figures_refusal why place e = refused_text (flows_reply b).answer why place _ e

    pub figures_lines : (s : State) → (flows_reply b).answer.refusal ≡ 0 → s ≡ (flows_reply b).state →
        dressed_text s.table sizes dress ≡ figures_text b sizes dress
    unfolding figures_text
    figures_lines s ok e = ap (λ (z : State). dressed_text z.table sizes dress) e ∙ fine_text (flows_reply b).answer _ ok
