-- A word read digit by digit, and two words compared.
use mathlib.Core.Path.{◌≡◌, refl, sym, ap, ◌∙◌}
use mathlib.Core.Bool.{Bool}
use mathlib.Core.List.{List, [], ◌∷◌, ◌++◌, append-nil, append_assoc}
use Prim.Native.Nat.{ℕ, zero, suc, ◌+◌, ◌*◌, ◌-◌, ◌/◌, ◌%◌, ◌^◌, ◌≤◌, ◌<◌}
use native.Mathlib.Nat.{mod-lt, pow-succ'}
use native.Mathlib.Omega.{arith}
use borrow.Author.Tests.{le-leb}
use Rattle.std.proofs.lemmas.List.{drop_more}
use Rattle.std.proofs.lemmas.Bool.Decides.{same_from_decides}
use Rattle.std.proofs.lemmas.Slice.Eq.{bytes_eq-Decides}
use lib.ListN.{length, get_or, drop}
use Rattle.std.specs.Prelude.{Some}
use Rattle.std.specs.Bool.{Decides}
use Rattle.io.specs.Digits.{last_digits, hex_digit_ascii}
use Rattle.text.specs.Text.{most_number, places, decimal, read_on, word_of, same}
use Rattle.text.proofs.Texts.{glyph_low, decimal_length, places_fewest}

pub word_start : (w : List ℕ) → (length w ≡ 0 → ⊥) → read_on 0 (drop 0 w) ≡ word_of w
word_start [] h = absurd (h refl)
word_start (x ∷ xs) h = refl

read_digit : (m d n : ℕ) (ds : List ℕ) → 48 ≤ d → d ≤ 57 → 10 * m + (d - 48) ≡ n → n ≤ most_number → read_on m (d ∷ ds) ≡ read_on n ds
read_digit m d n ds low high is most =
    let next : ℕ = 10 * m + (d - 48) in
    rw (le-leb 48 d low, le-leb d 57 high, le-leb next most_number (omega (arith, is))) (ap (λ (k : ℕ). read_on k ds) is)

-- at a digit, where those before it gave n
pub one_digit : (w : List ℕ) (n i m : ℕ) → i < length w → read_on n (drop i w) ≡ word_of w →
    48 ≤ get_or w i 0 → get_or w i 0 ≤ 57 → m ≡ 10 * n + (get_or w i 0 - 48) → m ≤ most_number → read_on m (drop (i + 1) w) ≡ word_of w
one_digit w n i m inside read low high is most =
    let d : ℕ = get_or w i 0 in
    let here : read_on n (d ∷ drop (i + 1) w) ≡ word_of w = sym (ap (read_on n) (drop_more w i 0 inside)) ∙ read in
    sym (read_digit n d m (drop (i + 1) w) low high (sym is) most) ∙ here

-- ---- a number that was printed is read back
read_digits : (k n : ℕ) (ds : List ℕ) → n < 10 ^ k → n ≤ most_number → read_on 0 (last_digits 10 k n ++ ds) ≡ read_on n ds
read_digits zero n ds h most = let z : 0 ≡ n = omega arith in ap (λ (m : ℕ). read_on m ds) z
read_digits (suc k) n ds h most =
    let g : ℕ = hex_digit_ascii (n % 10) in
    let is : g ≡ 48 + n % 10 = glyph_low (n % 10) (mod-lt n (omega arith)) in
    ap (read_on 0) (append_assoc (last_digits 10 k (n / 10)) (g ∷ []) ds)
    ∙ read_digits k (n / 10) (g ∷ ds) (omega (arith, pow-succ' 10 k)) (omega arith)
    ∙ read_digit (n / 10) g n ds (omega arith) (omega arith) (omega arith) most

pub decimal_read : (n : ℕ) → n ≤ most_number → word_of (decimal n) ≡ Some n
unfolding decimal
decimal_read n most =
    let some : length (decimal n) ≡ 0 → ⊥ = λ e. omega (arith, decimal_length n, (places_fewest n (omega arith)).0) in
    sym (word_start (decimal n) some)
    ∙ ap (read_on 0) (sym (append-nil (decimal n)))
    ∙ read_digits (places n) n [] (places_fewest n (omega arith)).1 most

-- ---- two words are the same
-- whatever tells whether they are equal as lists
pub told : (r : Bool) (a b : List ℕ) → Decides r (a ≡ b) → r ≡ same a b
told r a b d = same_from_decides r (same a b) d (bytes_eq-Decides a b)
