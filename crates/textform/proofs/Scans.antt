-- Scans of a text: the words of a line, found by how many bytes of a sort stand at the start, and its newlines.
use mathlib.Core.Path.{◌≡◌, refl, sym, ap, ◌∙◌}
use mathlib.Core.Bool.{Bool, true, false, not, cond}
use mathlib.Core.Logic.{⊎_elim}
use mathlib.Core.List.{List, [], ◌∷◌, ◌++◌, append-nil, append_assoc}
use Prim.Native.Nat.{ℕ, suc, ◌+◌}
use native.Mathlib.Nat.{suc-ne-zero}
use native.Mathlib.Omega.{arith}
use lib.Dec.{eqb}
use lib.ListN.{length, take, drop}
use Rattle.std.specs.List.{prefix_len, count_by}
use Rattle.std.proofs.lemmas.List.Recursion.{is_count_by}
use Rattle.drr.proofs.Bools.{dec}
use Rattle.textform.specs.Grammar.{blankb, uncommented, words_from, words_of, first, others}
use Rattle.textform.specs.Made.{newlines}

-- how many bytes that pass a test stand at the start
abbrev leading : (ℕ → Bool) → List ℕ → ℕ
leading p [] = 0
leading p (x ∷ xs) = cond (p x) (suc (leading p xs)) 0

pub leading_is : (p : ℕ → Bool) (t : List ℕ) → prefix_len p t ≡ leading p t
leading_is p [] = refl
leading_is p (x ∷ xs) =
    let e : 1 + prefix_len p xs ≡ suc (leading p xs) = omega (arith, leading_is p xs) in
    ap (λ (n : ℕ). cond (p x) n 0) e

pub before_comment : (t : List ℕ) → take (leading (λ b. not (eqb b 35)) t) t ≡ uncommented t
before_comment [] = refl
before_comment (x ∷ xs) =
    ⊎_elim (λ e. rw e) (λ e. rw e (ap (λ (l : List ℕ). x ∷ l) (before_comment xs))) (dec (eqb x 35))

-- how many bytes between words stand at the start, and how many of a word
abbrev pub blank : List ℕ → ℕ
blank r = leading blankb r

abbrev pub solid : List ℕ → ℕ
solid r = leading (λ b. not (blankb b)) r

-- ---- the words of a line
blank_first : (x : ℕ) (r : List ℕ) → blankb x ≡ true → words_of (x ∷ r) ≡ words_of r
blank_first x r e = rw e

-- blanks before the first word
words_past_blanks : (r : List ℕ) → words_of (drop (blank r) r) ≡ words_of r
words_past_blanks [] = refl
words_past_blanks (x ∷ xs) =
    ⊎_elim (λ e. rw e (words_past_blanks xs))
    (λ e. ap (λ (y : Bool). words_of (drop (cond y (suc (blank xs)) 0) (x ∷ xs))) e)
    (dec (blankb x))

no_blank_left : (r : List ℕ) → blank (drop (blank r) r) ≡ 0
no_blank_left [] = refl
no_blank_left (x ∷ xs) =
    ⊎_elim (λ e. rw e (no_blank_left xs))
    (λ e. ap (λ (y : Bool). blank (drop (cond y (suc (blank xs)) 0) (x ∷ xs))) e ∙ rw e)
    (dec (blankb x))

-- the bytes of a word, and where it ends
word_goes_on : (a : ℕ) (w r : List ℕ) → words_from (a ∷ w) r ≡ (a ∷ w ++ take (solid r) r) ∷ words_of (drop (solid r) r)
word_goes_on a w [] = ap (λ (v : List ℕ). (a ∷ v) ∷ []) (sym (append-nil w))
word_goes_on a w (x ∷ xs) =
    ⊎_elim
    (λ e. rw e (ap (λ (v : List ℕ). (a ∷ v) ∷ words_of xs) (sym (append-nil w))
    ∙ ap (λ (ws : List (List ℕ)). (a ∷ w ++ []) ∷ ws) (sym (blank_first x xs e))))
    (λ e. rw e (word_goes_on a (w ++ x ∷ []) xs
    ∙ ap (λ (v : List ℕ). (a ∷ v) ∷ words_of (drop (solid xs) xs)) (append_assoc w (x ∷ []) (take (solid xs) xs))))
    (dec (blankb x))

solid_first : (x : ℕ) (r : List ℕ) → blank (x ∷ r) ≡ 0 → blankb x ≡ false
solid_first x r e = ⊎_elim (λ t. absurd (suc-ne-zero _ (rw t at e))) (λ f. f) (dec (blankb x))

word_at : (r : List ℕ) → blank r ≡ 0 → first (words_of r) ≡ take (solid r) r
word_at [] h = refl
word_at (x ∷ xs) h = rw (solid_first x xs h) (ap first (word_goes_on x [] xs))

words_behind : (r : List ℕ) → blank r ≡ 0 → others (words_of r) ≡ words_of (drop (solid r) r)
words_behind [] h = refl
words_behind (x ∷ xs) h = rw (solid_first x xs h) (ap others (word_goes_on x [] xs))

-- the next word, and what stands behind it
module _
    (t words : List ℕ) (a n : ℕ) (is : words ≡ drop a t) (from : a ≡ prefix_len blankb t)
    (size : n ≡ prefix_len (λ b. not (blankb b)) words) where
  from_word : words ≡ drop (blank t) t
  from_word = is ∙ ap (λ (k : ℕ). drop k t) (from ∙ leading_is blankb t)

  none : blank words ≡ 0
  none = ap blank from_word ∙ no_blank_left t

  same : words_of words ≡ words_of t
  same = ap words_of from_word ∙ words_past_blanks t

  long : n ≡ solid words
  long = size ∙ leading_is (λ b. not (blankb b)) words

  pub word_next : take n words ≡ first (words_of t)
  word_next = ap (λ (k : ℕ). take k words) long ∙ sym (word_at words none) ∙ ap first same

  pub word_behind : words_of (drop n words) ≡ others (words_of t)
  word_behind = ap (λ (k : ℕ). words_of (drop k words)) long ∙ sym (words_behind words none) ∙ ap others same

-- a line whose first word has no byte has no word
no_word_at : (r : List ℕ) → blank r ≡ 0 → length (first (words_of r)) ≡ 0 → words_of r ≡ []
no_word_at [] h e = refl
no_word_at (x ∷ xs) h e =
    absurd (suc-ne-zero _ (ap length (sym (ap first (word_goes_on x [] xs))) ∙ (rw (solid_first x xs h) at e)))

pub no_word : (r : List ℕ) → length (first (words_of r)) ≡ 0 → words_of r ≡ []
no_word r e =
    let u : List ℕ = drop (blank r) r in
    sym (words_past_blanks r) ∙ no_word_at u (no_blank_left r) (ap (λ (ws : List (List ℕ)). length (first ws)) (words_past_blanks r) ∙ e)

-- ---- newlines counted
pub newlines_counted : (t : List ℕ) → count_by (λ b. eqb b 10) t ≡ newlines t
newlines_counted t = sym (is_count_by newlines (λ b. eqb b 10) refl (λ x xs. by (eqb x 10) (newlines xs)) t)
  where
    by : (b : Bool) (n : ℕ) → cond b (n + 1) n ≡ cond b (1 + n) n
    by true n = omega arith
    by false n = refl
