-- The rows of the figures: numbers with a time behind them, titles, and another byte in place of the space.
use mathlib.Core.Path.{◌≡◌, refl, sym, ap, ◌∙◌}
use mathlib.Core.Bool.{Bool, true, false, cond}
use mathlib.Core.List.{List, [], ◌∷◌, ◌++◌}
use Prim.Native.Nat.{ℕ, ◌+◌, ◌*◌, ◌/◌, ◌≤◌, ◌<◌}
use native.Mathlib.Omega.{arith}
use borrow.Author.Tests.{eqb-true}
use lib.Dec.{eqb}
use Rattle.std.proofs.lemmas.List.{drop_more, get_or_default}
use Rattle.std.proofs.lemmas.List.Edits.{map_over_more}
use lib.ListN.{length, get_or, set, take, drop, length-append, drop_of_length-le}
use Rattle.io.specs.Digits.{last_digits}
use Rattle.text.specs.Spelt.{spelt}
use Rattle.text.specs.Text.{decimal, rest_text, time_text, timed_text, owed_title, last_title, later_titles, titles_text}
use Rattle.text.specs.Text.{parted_byte, parted}
use Rattle.text.proofs.Texts.{decimal_most, digits_length}

-- ---- numbers and a time
pub time_parts : (t : ℕ) → time_text t ≡ decimal (t / 100000000) ++ 46 ∷ last_digits 10 8 t
unfolding time_text
time_parts t = refl

time_most : (t : ℕ) → length (time_text t) ≤ 29
time_most t =
    let s : List ℕ = decimal (t / 100000000) in
    omega (arith, ap length (time_parts t), length-append s (46 ∷ last_digits 10 8 t), decimal_most (t / 100000000), digits_length 8 t)

timed_next : (n : ℕ) (ns : List ℕ) (t : ℕ) → timed_text (n ∷ ns) t ≡ decimal n ++ 32 ∷ timed_text ns t
timed_next n [] t = refl
timed_next n (m ∷ ms) t = refl

pub timed_most : (l : List ℕ) (t : ℕ) → length (timed_text l t) ≤ 30 * (length l + 1)
timed_most [] t = omega (arith, length-append (time_text t) (10 ∷ []), time_most t)
timed_most (n ∷ ns) t =
    omega (
      arith,
      ap length (timed_next n ns t),
      length-append (decimal n) (32 ∷ timed_text ns t),
      decimal_most n,
      timed_most ns t,
    )

pub timed_first : (l : List ℕ) (t i : ℕ) → i < length l →
    timed_text (drop i l) t ≡ decimal (get_or l i 0) ++ 32 ∷ timed_text (drop (i + 1) l) t
timed_first l t i h = ap (λ (k : List ℕ). timed_text k t) (drop_more l i 0 h) ∙ timed_next (get_or l i 0) (drop (i + 1) l) t

pub timed_end : (l : List ℕ) (t i : ℕ) → length l ≤ i → timed_text (drop i l) t ≡ time_text t ++ 10 ∷ []
timed_end l t i h = ap (λ (k : List ℕ). timed_text k t) (drop_of_length-le l h)

-- ---- titles
abbrev pub later : List ℕ → Bool → List ℕ
later sizes timed = rest_text (later_titles sizes timed)

last_most : (timed : Bool) → length (rest_text (last_title timed)) ≤ 14
last_most true = omega arith
last_most false = omega arith

later_most : (l : List ℕ) (timed : Bool) → length (later l timed) ≤ 30 * length l + 14
later_most [] timed = omega (arith, last_most timed)
later_most (S ∷ ss) timed =
    omega (arith, length-append (32 ∷ owed_title S) (later ss timed), decimal_most S, later_most ss timed)

abbrev pub first_titles : List ℕ
first_titles = spelt "flow quantum maximum C wait"

pub titles_parts : (l : List ℕ) (timed : Bool) → titles_text l timed ≡ first_titles ++ later l timed
titles_parts l timed = refl

pub titles_most : (l : List ℕ) (timed : Bool) → length (titles_text l timed) ≤ 30 * (length l + 6)
titles_most l timed = omega (arith, later_most l timed)

-- ---- a text with another byte for the space
space_kept : (x : ℕ) (t : Bool) → eqb x 32 ≡ t → cond t 32 x ≡ x
space_kept x true e = sym (eqb-true x 32 e)
space_kept x false e = refl

-- .. with a space for it, the same
pub parted_space : (text : List ℕ) → parted 32 text ≡ text
parted_space [] = refl
parted_space (x ∷ xs) = λ i. space_kept x (eqb x 32) refl i ∷ parted_space xs i

-- a turn of its loop, where v is the byte or the parting one
pub part_turn : (p : ℕ) (b t : List ℕ) (k : ℕ) → k < length b → k < length t → t ≡ parted p (take k b) ++ drop k b →
    (v : ℕ) → v ≡ parted_byte p (get_or t k 0) → set t k v ≡ parted p (take (k + 1) b) ++ drop (k + 1) b
part_turn p b t k inside within is v here =
    let x : ℕ = get_or t k 0 in
    ap (set t k) here ∙ map_over_more (parted_byte p) b t k x inside is (get_or_default t k 0 x within)
