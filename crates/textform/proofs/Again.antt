-- A shown line is read back: its lines, its words and the record that they say.
use mathlib.Core.Path.{◌≡◌, refl, sym, ap, ◌∙◌}
use mathlib.Core.List.{List, [], ◌∷◌, ◌++◌, map, append-nil, append_assoc}
use Prim.Native.Nat.{ℕ, zero, suc, ◌/◌, ◌%◌, ◌≤◌, ◌<◌}
use native.Mathlib.Omega.{arith}
use borrow.Author.Tests.{ne_eqb, le-leb}
use lib.Dec.{ltb}
use lib.ListN.{length}
use Rattle.io.specs.Digits.{last_digits, hex_digit_ascii}
use Rattle.drr.specs.Limits.{least_quantum, most_quantum, least_maximum, most_maximum, most_overhead}
use Rattle.drr.specs.declared.FlowRecord.{FlowRecord}
use Rattle.drr.proofs.Bools.{by_test}
use Rattle.drr.proofs.Tables.{InRange}
use Rattle.runfile.specs.File.{Event}
use Rattle.std.specs.Prelude.{Some, Ok}
use Rattle.text.specs.Spelt.{spelt}
use Rattle.text.specs.Text.{places, decimal, spaced_text, fields_text, around, most_number}
use Rattle.text.proofs.Texts.{decimal_length}
use Rattle.text.proofs.Lines.{fields_parts}
use Rattle.text.proofs.Words.{decimal_read}
use Rattle.textform.specs.declared.Want.TheVariants as want
use Rattle.textform.specs.declared.Item.TheVariants.{OverheadOf, FlowOf, EventOf}
use Rattle.textform.specs.Grammar.{lines_from, lines_of, uncommented, ended, words_from, words_of, overhead_word, flow_word, event_word}
use Rattle.textform.specs.Grammar.{in_range, field, given, most_of4, most_of2, item_in, item_of}
use Rattle.textform.specs.Shown.{flow_text, event_text}
use Rattle.textform.proofs.Drafts.{All, InFields}

-- ---- lines
-- bytes that neither end a line nor start a comment
abbrev Within : List ℕ → Type 0
Within u = All (λ b. (b ≡ 10 → ⊥) × (b ≡ 35 → ⊥)) u

within_both : (u v : List ℕ) → Within u → Within v → Within (u ++ v)
within_both [] v h g = g
within_both (b ∷ u) v h g = (h.0, within_both u v h.1 g)

first_line_lem : (w u rest : List ℕ) → Within u → lines_from w (u ++ 10 ∷ rest) ≡ (w ++ u) ∷ lines_of rest
first_line_lem w [] rest h = ap (λ (l : List ℕ). l ∷ lines_of rest) (sym (append-nil w))
first_line_lem w (b ∷ u) rest h =
    rw (ne_eqb b 10 h.0.0)
    (first_line_lem (w ++ b ∷ []) u rest h.1 ∙ ap (λ (l : List ℕ). l ∷ lines_of rest) (append_assoc w (b ∷ []) u))

no_comment : (u : List ℕ) → Within u → uncommented u ≡ u
no_comment [] h = refl
no_comment (b ∷ u) h = rw (ne_eqb b 35 h.0.1) (ap (λ (l : List ℕ). b ∷ l) (no_comment u h.1))

-- ---- words
-- letters and digits, which all stand at 48 or above
abbrev Plain : List ℕ → Type 0
Plain u = All (λ b. 48 ≤ b) u

plain_within : (u : List ℕ) → Plain u → Within u
plain_within [] h = tt
plain_within (b ∷ u) h = ((λ e. omega arith, λ e. omega arith), plain_within u h.1)

plain_both : (u v : List ℕ) → Plain u → Plain v → Plain (u ++ v)
plain_both [] v h g = g
plain_both (b ∷ u) v h g = (h.0, plain_both u v h.1 g)

digits_plain : (k n : ℕ) → Plain (last_digits 10 k n)
digits_plain zero n = tt
digits_plain (suc k) n =
    let low : 48 ≤ hex_digit_ascii (n % 10) = by_test (λ g. 48 ≤ g) (ltb (n % 10) 10) (λ _. omega arith) (λ _. omega arith) in
    plain_both (last_digits 10 k (n / 10)) (hex_digit_ascii (n % 10) ∷ []) (digits_plain k (n / 10)) (low, tt)

decimal_plain : (n : ℕ) → Plain (decimal n)
unfolding decimal
decimal_plain n = digits_plain (places n) n

decimal_some : (n : ℕ) → 0 < length (decimal n)
unfolding places
decimal_some n = omega (arith, decimal_length n)

-- a word is read on to its end
word_on : (w u rest : List ℕ) → Plain u → words_from w (u ++ rest) ≡ words_from (w ++ u) rest
word_on w [] rest h = ap (λ (l : List ℕ). words_from l rest) (sym (append-nil w))
word_on w (b ∷ u) rest h =
    rw (ne_eqb b 32 (λ e. omega arith), ne_eqb b 9 (λ e. omega arith), ne_eqb b 13 (λ e. omega arith))
    (word_on (w ++ b ∷ []) u rest h.1 ∙ ap (λ (l : List ℕ). words_from l rest) (append_assoc w (b ∷ []) u))

ended_some : (w : List ℕ) (ws : List (List ℕ)) → 0 < length w → ended w ws ≡ w ∷ ws
ended_some [] ws h = absurd (omega arith)
ended_some (b ∷ w) ws h = refl

-- numbers behind a word, a space before each
fields_words : (w : List ℕ) (ns : List ℕ) → 0 < length w → words_from w (spaced_text ns) ≡ w ∷ map decimal ns
fields_words w [] h = ended_some w [] h
fields_words w (n ∷ ns) h =
    ended_some w (words_from [] (decimal n ++ spaced_text ns)) h
    ∙ ap (λ (ws : List (List ℕ)). w ∷ ws) (word_on [] (decimal n) (spaced_text ns) (decimal_plain n)
    ∙ fields_words (decimal n) ns (decimal_some n))

fields_within : (ns : List ℕ) → Within (spaced_text ns)
fields_within [] = tt
fields_within (n ∷ ns) =
    let digits-within = plain_within (decimal n) (decimal_plain n) in
    ((λ e. omega arith, λ e. omega arith), within_both (decimal n) (spaced_text ns) digits-within (fields_within ns))

-- ---- a line of a word and numbers: the text's first line, and what it says
module _ (word ns : List ℕ) (plain : Plain word) (some : 0 < length word) where
  abbrev line : List ℕ
  line = word ++ spaced_text ns

  within : Within line
  within = within_both word (spaced_text ns) (plain_within word plain) (fields_within ns)

  line_split : (rest : List ℕ) → lines_of ((word ++ fields_text ns) ++ rest) ≡ line ∷ lines_of rest
  line_split rest =
      let e : (word ++ fields_text ns) ++ rest ≡ line ++ 10 ∷ rest =
      ap (λ (l : List ℕ). (word ++ l) ++ rest) (fields_parts ns)
      ∙ ap (λ (l : List ℕ). l ++ rest) (sym (append_assoc word (spaced_text ns) (10 ∷ [])))
      ∙ append_assoc line (10 ∷ []) rest in
      ap lines_of e ∙ first_line_lem [] line rest within

  line_item : item_of line ≡ item_in (word ∷ map decimal ns)
  unfolding item_of
  line_item =
      ap (λ (l : List ℕ). item_in (words_of l)) (no_comment line within)
      ∙ ap item_in (word_on [] word (spaced_text ns) plain ∙ fields_words word ns some)

-- ---- a record's line
field_read : (least most n : ℕ) → least ≤ n → n ≤ most → n ≤ most_number → field least most (decimal n) ≡ Some n
field_read least most n low high fits =
    ap (in_range least most) (decimal_read n fits) ∙ rw (le-leb least n low, le-leb n most high)

abbrev pub overhead_line : ℕ → List ℕ
overhead_line o = overhead_word ++ spaced_text (o ∷ [])

abbrev pub flow_line : FlowRecord → List ℕ
flow_line r = flow_word ++ spaced_text (r.quantum ∷ r.maximum ∷ [])

abbrev pub event_line : Event → List ℕ
event_line e = event_word ++ spaced_text (e.tick ∷ e.flow ∷ e.length ∷ [])

overhead_word_lem : Plain overhead_word
overhead_word_lem =
    (omega arith, (omega arith, (omega arith, (omega arith, (omega arith, (omega arith, (omega arith, (omega arith, tt))))))))

flow_word_lem : Plain flow_word
flow_word_lem = (omega arith, (omega arith, (omega arith, (omega arith, tt))))

event_word_lem : Plain event_word
event_word_lem = (omega arith, (omega arith, (omega arith, (omega arith, (omega arith, tt)))))

pub overhead_split : (o : ℕ) (rest : List ℕ) →
    lines_of (around (spelt "overhead ") o (10 ∷ []) ++ rest) ≡ overhead_line o ∷ lines_of rest
overhead_split o rest = line_split overhead_word (o ∷ []) overhead_word_lem (omega arith) rest

pub flow_split : (r : FlowRecord) (rest : List ℕ) → lines_of (flow_text r ++ rest) ≡ flow_line r ∷ lines_of rest
flow_split r rest = line_split flow_word (r.quantum ∷ r.maximum ∷ []) flow_word_lem (omega arith) rest

pub event_split : (e : Event) (rest : List ℕ) → lines_of (event_text e ++ rest) ≡ event_line e ∷ lines_of rest
event_split e rest = line_split event_word (e.tick ∷ e.flow ∷ e.length ∷ []) event_word_lem (omega arith) rest

pub overhead_item_lem : (o : ℕ) → o ≤ most_overhead → item_of (overhead_line o) ≡ Ok (OverheadOf o)
overhead_item_lem o h =
    let n = field_read 0 most_overhead o (omega arith) h (omega (arith, h)) in
    line_item overhead_word (o ∷ []) overhead_word_lem (omega arith)
    ∙ (λ i. given (n i) want.Overhead (λ a. Ok (OverheadOf a)))

pub flow_item_lem : (r : FlowRecord) → InRange r → item_of (flow_line r) ≡ Ok (FlowOf r.quantum r.maximum)
flow_item_lem r h =
    let q = field_read least_quantum most_quantum r.quantum h.quantum.0 h.quantum.1 (omega (arith, h.quantum.1)) in
    let l = field_read least_maximum most_maximum r.maximum h.maximum.0 h.maximum.1 (omega (arith, h.maximum.1)) in
    line_item flow_word (r.quantum ∷ r.maximum ∷ []) flow_word_lem (omega arith)
    ∙ (λ i. given (q i) want.Quantum (λ a. given (l i) want.Maximum (λ b. Ok (FlowOf a b))))

pub event_item_lem : (e : Event) → InFields e → item_of (event_line e) ≡ Ok (EventOf e.tick e.flow e.length)
event_item_lem e h =
    let t = field_read 0 most_of4 e.tick (omega arith) h.tick (omega (arith, h.tick)) in
    let f = field_read 0 most_of2 e.flow (omega arith) h.flow (omega (arith, h.flow)) in
    let n = field_read 0 most_of2 e.length (omega arith) h.size (omega (arith, h.size)) in
    line_item event_word (e.tick ∷ e.flow ∷ e.length ∷ []) event_word_lem (omega arith)
    ∙ (λ i. given (t i) want.Tick (λ a. given (f i) want.Flow (λ b. given (n i) want.Length (λ c. Ok (EventOf a b c)))))
