-- Numbers in decimal, and texts put into a buffer one after the other.
use mathlib.Core.Path.{◌≡◌, refl, sym, ap, subst, ◌∙◌}
use mathlib.Core.Bool.{Bool, true, false, cond}
use mathlib.Core.List.{List, [], ◌∷◌, ◌++◌, append_assoc}
use Prim.Native.Nat.{ℕ, zero, suc, ◌+◌, ◌-◌, ◌/◌, ◌%◌, ◌^◌, ◌≤◌, ◌<◌}
use native.Mathlib.Nat.{add-zero, pow-succ'}
use native.Mathlib.Omega.{arith}
use borrow.Author.Tests.{lt-ltb, le-ltb, eqb-true, eqb-false}
use lib.ListN.{length, set, take, drop, length-append}
use lib.Dec.{eqb, ltb}
use lib.Seq.{sets, sets-eq, length-sets, length-take-le}
use Rattle.std.proofs.lemmas.List.Edits.{paste_all}
use Rattle.std.proofs.lemmas.Slice.{put_mid-paste}
use borrow.Rule.Slice.PartMut.{put_mid}
use Rattle.std.proofs.Common.{inl, inr}
use Rattle.std.proofs.lemmas.Bool.{cases_lt}
use Rattle.std.proofs.Math.Nat.{pow-le-pow_right}
use Rattle.text.specs.declared.Out.{Out}
use Rattle.io.specs.Counts.{IsPrefixLen}
use Rattle.io.specs.Digits.{last_digits, hex_digit_ascii, IsDigitCount}
use Rattle.text.specs.Text.{further, places, decimal, overlaid, Put, Puts, HasRoom}

-- ---- the digits of a number
pub digits_length : (k n : ℕ) → length (last_digits 10 k n) ≡ k
digits_length zero n = refl
digits_length (suc k) n = length-append (last_digits 10 k (n / 10)) (hex_digit_ascii (n % 10) ∷ []) ∙ omega (arith, digits_length k (n / 10))

further_by : (f n : ℕ) (t : Bool) → n ≤ f → cond t 0 (suc n) ≤ suc f
further_by f n true h = omega arith
further_by f n false h = omega arith

further_most : (f rest : ℕ) → further f rest ≤ f
further_most zero rest = omega arith
further_most (suc f) rest = further_by f (further f (rest / 10)) (eqb rest 0) (further_most f (rest / 10))

pub decimal_length : (n : ℕ) → length (decimal n) ≡ places n
unfolding decimal
decimal_length n = digits_length (places n) n

pub decimal_most : (n : ℕ) → length (decimal n) ≤ 20
unfolding places
decimal_most n = omega (arith, decimal_length n, further_most 19 (n / 10))

pub glyph_low : (d : ℕ) → d < 10 → hex_digit_ascii d ≡ 48 + d
glyph_low d h = rw (lt-ltb d 10 h)

-- ---- a text put into a buffer
-- a text put behind another is the two put at once
pub sets_two : (b u v : List ℕ) (at : ℕ) → sets (sets b at u) (at + length u) v ≡ sets b at (u ++ v)
sets_two b [] v at = ap (λ (i : ℕ). sets b i v) (add-zero at)
sets_two b (x ∷ u) v at =
    let e : at + suc (length u) ≡ suc at + length u = omega arith in
    ap (λ (i : ℕ). sets (sets b at (x ∷ u)) i v) e ∙ sets_two (set b at x) u v (suc at)

pub put_none : (b : List ℕ) (at : ℕ) → Put b at [] b at
put_none b at = (refl, sym (add-zero at))

-- bytes copied to their place
pub put_part : (b v w : List ℕ) (at k : ℕ) → at + length v ≤ length b → w ≡ v → length v ≡ k → put_mid at k b w ≡ sets b at v
put_part b v w at k h e n =
    put_mid-paste at k b w v (length v) e n refl ∙ paste_all b at v (length v) refl
    ∙ sym (append_assoc (take at b) v (drop (at + length v) b)) ∙ sym (sets-eq v b at h)

-- ---- a text put part by part: what is left to put gives the whole
pub record Left (b₀ : List ℕ) (at₀ : ℕ) (whole b : List ℕ) (at : ℕ) (rest : List ℕ) : Type 0 where
  pub fits : at₀ + length whole ≤ length b₀
  pub size : length b ≡ length b₀
  pub text : sets b at rest ≡ sets b₀ at₀ whole
  pub count : at + length rest ≡ at₀ + length whole

pub left_all : (b : List ℕ) (at : ℕ) (whole : List ℕ) → at + length whole ≤ length b → Left b at whole b at whole
left_all b at whole h = record { fits = h; size = refl; text = refl; count = refl }

module _ {b₀ : List ℕ} {at₀ : ℕ} {whole b : List ℕ} {at : ℕ} {rest : List ℕ} (p : Left b₀ at₀ whole b at rest) where
  pub left_fits : at + length rest ≤ length b
  left_fits = omega (arith, p.count, p.fits, p.size)

  pub left_end : (v : List ℕ) → rest ≡ v → (b' : List ℕ) (r : ℕ) → Put b at v b' r → Put b₀ at₀ whole b' r
  left_end v is b' r q = (q.0 ∙ ap (sets b at) (sym is) ∙ p.text, omega (arith, q.1, ap length is, p.count))

  module _ (u v : List ℕ) (is : rest ≡ u ++ v) where
    both : at + length u + length v ≡ at₀ + length whole
    both = omega (arith, ap length is, length-append u v, p.count)

    pub left_room : at + length u ≤ length b
    left_room = omega (arith, both, p.fits, p.size)

    pub left_then : (b' : List ℕ) (r : ℕ) → Put b at u b' r → Left b₀ at₀ whole b' r v
    left_then b' r q =
        let two : sets b' r v ≡ sets b at (u ++ v) =
        ap (λ (x : List ℕ). sets x r v) q.0 ∙ ap (λ (i : ℕ). sets (sets b at u) i v) q.1 ∙ sets_two b u v at in
        record {
          fits = p.fits;
          size = ap length q.0 ∙ length-sets b at u ∙ p.size;
          text = two ∙ ap (sets b at) (sym is) ∙ p.text;
          count = omega (arith, q.1, both);
        }

    -- .. where the length that the buffer keeps is said too
    pub left_next : (b' : List ℕ) (r : ℕ) → Put b at u b' r → length b' ≡ length b → Left b₀ at₀ whole b' r v
    left_next b' r q same = left_then b' r q

-- ---- a text and then another put into the same buffer
pub puts_two : {out mid out' : Out} {u v : List ℕ} → Puts out u mid → Puts mid v out' → Puts out (u ++ v) out'
puts_two {out} {mid} {out'} {u} {v} p q =
    let b : List ℕ = out.buf.now in
    record {
      same_buffer = q.same_buffer ∙ p.same_buffer;
      put = (
        q.put.0 ∙ ap (λ (l : List ℕ). sets l mid.at v) p.put.0 ∙ ap (λ (i : ℕ). sets (sets b out.at u) i v) p.put.1
            ∙ sets_two b u v out.at,
        omega (arith, p.put.1, q.put.1, length-append u v),
      );
    }

pub puts_as : {out out' : Out} {u v : List ℕ} → u ≡ v → Puts out v out' → Puts out u out'
puts_as {out} {out'} e p = subst (λ (t : List ℕ). Puts out t out') (sym e) p

-- room for both is room for the first, and then for the other
pub room_first : (out : Out) (w u v : List ℕ) → w ≡ u ++ v → HasRoom out w → HasRoom out u
room_first out w u v e room = omega (arith, ap length e, length-append u v)

pub room_then : {out mid : Out} (w : List ℕ) {u : List ℕ} (v : List ℕ) → w ≡ u ++ v → HasRoom out w → Puts out u mid → HasRoom mid v
room_then {out} {mid} w {u} v e room p =
    omega (arith, ap length e, length-append u v, p.put.1, ap length p.put.0, length-sets out.buf.now out.at u)

-- ---- the whole text, from the start of a buffer
abbrev pub Filled : List ℕ → List ℕ → List ℕ → ℕ → Type 0
Filled t b b' r = (r ≡ length t) × (b' ≡ overlaid t b)

-- of a text that is written where x is at least y, and else not
pub unfilled : (x y : ℕ) (t b : List ℕ) → x < y → Filled (cond (ltb x y) [] t) b b 0
unfilled x y t b h = rw (lt-ltb x y h) (refl, refl)

pub filled : (x y : ℕ) (t b b' : List ℕ) (r : ℕ) → y ≤ x → length t ≤ length b → Put b 0 t b' r → Filled (cond (ltb x y) [] t) b b' r
filled x y t b b' r h room p =
    let e : 0 + length t ≡ length t = omega arith in
    rw (le-ltb x y h) (p.1 ∙ e, p.0 ∙ sets-eq t b 0 (omega arith) ∙ ap (λ (i : ℕ). t ++ drop i b) e)

-- the numbers of W at the start of a list are no more than the list's: `&list[..r]` can be lent
pub counted : (W b x : List ℕ) (r : ℕ) → r ≡ length W → x ≡ overlaid W b → IsPrefixLen r x
counted W b x r e is =
    let most : r ≤ length x = omega (arith, ap length is, length-append W (drop (length W) b)) in
    (most, sym (length-take-le r x most))

-- ---- the definition of the digits is the one that `io`'s numbers have: the fewest digits that hold the number
abbrev Span : ℕ → ℕ → Type 0
Span n k = (n < 10 ^ suc k) × (0 < k → 10 ^ k ≤ n)

span_more : (n k : ℕ) → (n / 10 ≡ 0 → ⊥) → Span (n / 10) k → Span n (suc k)
span_more n zero ne s = (omega (arith, s.0, pow-succ' 10 1), λ z. omega (arith, ne))
span_more n (suc k) ne s =
    (omega (arith, s.0, pow-succ' 10 (suc (suc k))), λ z. omega (arith, s.1 (omega arith), pow-succ' 10 (suc k)))

span_by : (n k : ℕ) (t : Bool) → eqb (n / 10) 0 ≡ t → Span (n / 10) k → Span n (cond t 0 (suc k))
span_by n k true e s = (omega (arith, eqb-true (n / 10) 0 e), λ z. absurd (omega arith))
span_by n k false e s = span_more n k (eqb-false (n / 10) 0 e) s

further_span : (f n : ℕ) → n < 10 ^ suc f → Span n (further f (n / 10))
further_span zero n h = (h, λ z. absurd (omega arith))
further_span (suc f) n h =
    span_by n (further f (n / 10 / 10)) (eqb (n / 10) 0) refl (further_span f (n / 10) (omega (arith, h, pow-succ' 10 (suc f))))

pub places_fewest : (n : ℕ) → n < 10 ^ 20 → IsDigitCount 10 1 n (places n)
unfolding places
places_fewest n h =
    let j : ℕ = further 19 (n / 10) in
    let g = further_span 19 n h in
    let e : suc j - 1 ≡ j = omega arith in
    (omega arith, g.0, λ z. omega (arith, ap (λ (i : ℕ). 10 ^ i) e, g.1 (omega arith)))

not_below : (n i j : ℕ) → IsDigitCount 10 1 n i → IsDigitCount 10 1 n j → j ≤ i
not_below n i j p q = elim (cases_lt i j) [
  | inl l ↦
      let m : 10 ^ i ≤ 10 ^ (j - 1) = pow-le-pow_right (omega arith) (omega arith) in
      absurd (omega (arith, p.1, q.2 (omega (arith, p.0)), m))
  | inr h ↦ h
]

-- .. and no other number of digits is
pub places_only : (n k : ℕ) → n < 10 ^ 20 → IsDigitCount 10 1 n k → k ≡ places n
places_only n k h d =
    let e = places_fewest n h in
    omega (arith, not_below n k (places n) d e, not_below n (places n) k e d)

-- as many last digits as a number has
pub decimal_is : (n k : ℕ) (w : List ℕ) → n < 10 ^ 20 → IsDigitCount 10 1 n k → w ≡ last_digits 10 k n → w ≡ decimal n
unfolding decimal
decimal_is n k w h d e = e ∙ ap (λ (i : ℕ). last_digits 10 i n) (places_only n k h d)
