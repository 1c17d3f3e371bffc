-- The lines of a listing and the fields of a line.
use mathlib.Core.Path.{◌≡◌, refl, sym, ap, ◌∙◌}
use mathlib.Core.Bool.{Bool, true, false, cond}
use mathlib.Core.List.{List, [], ◌∷◌, ◌++◌, append-nil, append_assoc}
use Rattle.std.specs.Prelude.{Option, Some, None}
use Prim.Native.Nat.{ℕ, ◌+◌, ◌*◌, ◌-◌, ◌≤◌, ◌<◌, max}
use native.Mathlib.Omega.{arith}
use borrow.Author.Tests.{eq-eqb, ne_eqb}
use lib.Dec.{eqb}
use Rattle.std.proofs.lemmas.List.{take_rest}
use lib.ListN.{length, get_or, take, drop, length-append, length-take, length-drop}
use lib.Seq.{take_all}
use Rattle.text.specs.Text.{decimal, field_text, spaced_text, fields_text, numbers_text, Put}
use Rattle.text.specs.Text.{Form, form_text, fields_in, kinds, form_in, beside_line, line_text, beside_text}
use Rattle.text.proofs.Texts.{decimal_most}

-- a part of a list to its end, as code lends it
pub to_end : (n : ℕ) (l : List ℕ) → take (length l - n) (drop n l) ≡ drop n l
to_end n l = take_all (length l - n) (drop n l) (omega (arith, length-drop n l))

-- ---- room: 21 bytes for a field, 18 for each number of a listing
pub fields_most : (l : List ℕ) → length (fields_text l) ≤ 21 * length l + 1
fields_most [] = omega arith
fields_most (n ∷ ns) = omega (arith, length-append (field_text n) (fields_text ns), decimal_most n, fields_most ns)

pub numbers_most : (l : List ℕ) → length (numbers_text l) ≤ 21 * length l
numbers_most [] = omega arith
numbers_most (n ∷ ns) = omega (arith, length-append (decimal n) (fields_text ns), decimal_most n, fields_most ns)

line_most : (form : Option Form) (l w : List ℕ) → length (form_text form l w) ≤ 21 * (length l + length w) + 2
line_most (Some form) l w =
    omega (arith, fields_most (take form.1 l ++ w), length-append (take form.1 l) w, length-take form.1 l)
line_most None l w = omega arith

unless_most : (t : Bool) (l : List ℕ) → length (cond t [] l) ≤ length l
unless_most true l = omega arith
unless_most false l = omega arith

pub beside_left : (k : ℕ) (w : List ℕ) → length (beside_line k w) + length (drop 1 w) ≤ length w
beside_left k [] = omega (arith, unless_most (eqb k 3) [])
beside_left k (x ∷ xs) = omega (arith, unless_most (eqb k 3) (x ∷ []))

pub beside_most : (l w : List ℕ) → length (beside_text l w) ≤ 18 * length l + 21 * length w
unfolding beside_text line_text
beside_most [] w = omega arith
beside_most (k ∷ []) w = omega arith
beside_most (k ∷ a ∷ []) w = omega arith
beside_most (k ∷ a ∷ b ∷ []) w = omega arith
beside_most (k ∷ a ∷ b ∷ c ∷ []) w = omega arith
beside_most (k ∷ a ∷ b ∷ c ∷ d ∷ []) w = omega arith
beside_most (k ∷ a ∷ b ∷ c ∷ d ∷ e ∷ more) w =
    let five : List ℕ = a ∷ b ∷ c ∷ d ∷ e ∷ [] in
    let after : List ℕ = cond (eqb k 3) [] (beside_text more (drop 1 w)) in
    omega (
      arith,
      length-append (line_text k five w) after,
      line_most (form_in kinds k) five (beside_line k w),
      beside_left k w,
      unless_most (eqb k 3) (beside_text more (drop 1 w)),
      beside_most more (drop 1 w),
    )

-- a line by what its form is, and what stands beside it
pub in_form : {form f : Option Form} → form ≡ f → {v w : List ℕ} → v ≡ w → (l b b' : List ℕ) (at r : ℕ) →
    Put b at (form_text f l w) b' r → Put b at (form_text form l v) b' r
in_form e g l b b' at r p = rw (e, g) p

-- ---- the table: no form of it prints more than five fields
abbrev most : List (ℕ × Form) → ℕ
most [] = 0
most (entry ∷ more) = max (fields_in (Some entry.1)) (most more)

most_by : (t : Bool) (x y : Option Form) (n : ℕ) → fields_in y ≤ n → fields_in (cond t x y) ≤ max (fields_in x) n
most_by true x y n h = omega arith
most_by false x y n h = omega arith

within_most : (table : List (ℕ × Form)) (kind : ℕ) → fields_in (form_in table kind) ≤ most table
within_most [] kind = omega arith
within_most (entry ∷ more) kind = most_by (eqb kind entry.0) (Some entry.1) (form_in more kind) (most more) (within_most more kind)

pub at_most_five : (kind : ℕ) → fields_in (form_in kinds kind) ≤ 5
unfolding kinds
at_most_five kind = within_most kinds kind

-- ---- field after field
pub fields_two : (u v : List ℕ) → fields_text (u ++ v) ≡ spaced_text u ++ fields_text v
fields_two [] v = refl
fields_two (n ∷ u) v =
    ap (λ (l : List ℕ). field_text n ++ l) (fields_two u v) ∙ sym (append_assoc (field_text n) (spaced_text u) (fields_text v))

pub fields_parts : (l : List ℕ) → fields_text l ≡ spaced_text l ++ 10 ∷ []
fields_parts l = ap fields_text (sym (append-nil l)) ∙ fields_two l []

pub no_number : (l b : List ℕ) → length l ≡ 0 → Put b 0 (numbers_text l) b 0
no_number [] b e = (refl, refl)
no_number (n ∷ ns) b e = absurd (omega arith)

-- ---- what stands beside a line, and what is left for those behind it
beside_by : (t : Bool) (w : List ℕ) → take (length (cond t [] (take 1 w))) w ≡ cond t [] (take 1 w)
beside_by true w = refl
beside_by false [] = refl
beside_by false (x ∷ xs) = refl

beside_drop : (w : List ℕ) → drop (length (take 1 w)) w ≡ drop 1 w
beside_drop [] = refl
beside_drop (x ∷ xs) = refl

module _ (k : ℕ) (w : List ℕ) where
  beside_other : (k ≡ 3 → ⊥) → length (beside_line k w) ≡ length (take 1 w)
  beside_other other = rw (ne_eqb k 3 other)

  pub beside_part : (n : ℕ) → n ≡ length (beside_line k w) → take n w ≡ beside_line k w
  beside_part n e = ap (λ (i : ℕ). take i w) e ∙ beside_by (eqb k 3) w

  beside_rest : (k ≡ 3 → ⊥) → (n : ℕ) → n ≡ length (beside_line k w) → take (length w - n) (drop n w) ≡ drop 1 w
  beside_rest other n e = take_rest w n ∙ ap (λ (i : ℕ). drop i w) (e ∙ beside_other other) ∙ beside_drop w

-- ---- line after line
-- the text of a line of six numbers, as code lends its fields
abbrev pub first_line : List ℕ → List ℕ → List ℕ
first_line line w = form_text (form_in kinds (get_or line 0 0)) (take (length line - 1) (drop 1 line)) (beside_line (get_or line 0 0) w)

six_first : (line more w : List ℕ) → length line ≡ 6 →
    beside_text (line ++ more) w ≡ first_line line w ++ cond (eqb (get_or line 0 0) 3) [] (beside_text more (drop 1 w))
unfolding beside_text line_text
six_first [] more w h = absurd (omega arith)
six_first (k ∷ []) more w h = absurd (omega arith)
six_first (k ∷ a ∷ []) more w h = absurd (omega arith)
six_first (k ∷ a ∷ b ∷ []) more w h = absurd (omega arith)
six_first (k ∷ a ∷ b ∷ c ∷ []) more w h = absurd (omega arith)
six_first (k ∷ a ∷ b ∷ c ∷ d ∷ []) more w h = absurd (omega arith)
six_first (k ∷ a ∷ b ∷ c ∷ d ∷ e ∷ []) more w h = refl
six_first (k ∷ a ∷ b ∷ c ∷ d ∷ e ∷ f ∷ l) more w h = absurd (omega arith)

pub line_none : (l w : List ℕ) → length l < 6 → beside_text l w ≡ []
unfolding beside_text
line_none [] w h = refl
line_none (k ∷ []) w h = refl
line_none (k ∷ a ∷ []) w h = refl
line_none (k ∷ a ∷ b ∷ []) w h = refl
line_none (k ∷ a ∷ b ∷ c ∷ []) w h = refl
line_none (k ∷ a ∷ b ∷ c ∷ d ∷ []) w h = refl
line_none (k ∷ a ∷ b ∷ c ∷ d ∷ e ∷ l) w h = absurd (omega arith)

module _ (l line more w : List ℕ) (is : l ≡ line ++ more) (six : length line ≡ 6) where
  pub line_first : beside_text l w ≡ first_line line w ++ cond (eqb (get_or line 0 0) 3) [] (beside_text more (drop 1 w))
  line_first = ap (λ (k : List ℕ). beside_text k w) is ∙ six_first line more w six

  ended_by : (t : Bool) → eqb (get_or line 0 0) 3 ≡ t → beside_text l w ≡ first_line line w ++ cond t [] (beside_text more (drop 1 w))
  ended_by t e = line_first ∙ ap (λ (b : Bool). first_line line w ++ cond b [] (beside_text more (drop 1 w))) e

  -- where n numbers stand beside the line, and the others are lent on
  pub line_next : (get_or line 0 0 ≡ 3 → ⊥) → (n : ℕ) → n ≡ length (beside_line (get_or line 0 0) w) →
      beside_text l w ≡ first_line line w ++ beside_text more (take (length w - n) (drop n w))
  line_next other n e =
      ended_by false (ne_eqb (get_or line 0 0) 3 other)
      ∙ ap (λ (v : List ℕ). first_line line w ++ beside_text more v) (sym (beside_rest (get_or line 0 0) w other n e))

  pub line_last : get_or line 0 0 ≡ 3 → beside_text l w ≡ first_line line w
  line_last three = ended_by true (eq-eqb (get_or line 0 0) 3 three) ∙ append-nil (first_line line w)
