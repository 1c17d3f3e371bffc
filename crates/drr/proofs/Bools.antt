-- Tests and facts: what a Bool tells, each way.
use Prim.Native.Nat.{ℕ, zero, suc, ◌≤◌, ◌<◌, ◌+◌}
use mathlib.Core.Path.{◌≡◌, refl, ap, sym, ◌∙◌}
use mathlib.Core.Bool.{Bool, true, false, not, cond, ◌&&◌, ◌||◌, false≢true, true≢false}
use mathlib.Core.Logic.{◌⊎◌, inl, inr, ⊎_elim}
use native.Mathlib.Decide.{ℕ_discrete}
use native.Mathlib.Nat.{le_of_suc-le-suc, not-suc-le-zero, eq-or-lt_of_le, lt-suc_self}
use native.Mathlib.Numerals.{add-one}
use native.Mathlib.Omega.{arith}
use borrow.Author.Tests.{not-true, not-false, ltb-true, ltb-false, leb-true, le-leb}
use lib.Dec.{ltb, leb}
use Rattle.drr.specs.Sound.{all, withinb}

pub and_left : (a b : Bool) → a && b ≡ true → a ≡ true
and_left true b e = refl
and_left false b e = e

pub and_right : (a b : Bool) → a && b ≡ true → b ≡ true
and_right true b e = e
and_right false b e = absurd (false≢true e)

pub and_both : {a b : Bool} → a ≡ true → b ≡ true → a && b ≡ true
and_both p q = rw p q

pub or_cases : (a b : Bool) → a || b ≡ true → (a ≡ true) ⊎ (b ≡ true)
or_cases true b e = inl refl
or_cases false b e = inr e

pub or_inl : (a b : Bool) → a ≡ true → a || b ≡ true
or_inl a b p = rw p

pub or_inr : (a b : Bool) → b ≡ true → a || b ≡ true
or_inr true b p = refl
or_inr false b p = p

-- of a disjunction that fails
pub or_left : (a b : Bool) → a || b ≡ false → a ≡ false
or_left true b e = absurd (true≢false e)
or_left false b e = refl

pub or_right : (a b : Bool) → a || b ≡ false → b ≡ false
or_right true b e = absurd (true≢false e)
or_right false b e = e

pub not_of : {b : Bool} → b ≡ false → not b ≡ true
not_of p = rw p

pub apart : {b : Bool} → b ≡ true → b ≡ false → ⊥
apart p q = true≢false (sym p ∙ q)

-- ---- two ways
pub dec : (b : Bool) → (b ≡ true) ⊎ (b ≡ false)
dec true = inl refl
dec false = inr refl

pub same? : (k i : ℕ) → (k ≡ i) ⊎ (k ≡ i → ⊥)
same? k i = elim (ℕ_discrete k i) [ yes e ↦ inl e | no n ↦ inr n ]

pub below? : (a b : ℕ) → (a < b) ⊎ (b ≤ a)
below? a b = ⊎_elim (λ e. inl (ltb-true a b e)) (λ e. inr (ltb-false a b e)) (dec (ltb a b))

-- what holds of both outcomes of a test holds of the one that it picks
pub by_test : {A : Type 0} (P : A → Type 0) (b : Bool) {x y : A} → (b ≡ true → P x) → (b ≡ false → P y) → P (cond b x y)
by_test P true g h = g refl
by_test P false g h = h refl

-- exactly one of a test and its negation leads on
pub chosen : (t a b : Bool) → (t && a) || (not t && b) ≡ true → (t ≡ true → a ≡ true) × (t ≡ false → b ≡ true)
chosen true true b e = (λ _. refl, λ p. absurd (true≢false p))
chosen true false b e = absurd (false≢true e)
chosen false a b e = (λ p. absurd (false≢true p), λ _. e)

pub choose : (t a b : Bool) → (t ≡ true → a ≡ true) → (t ≡ false → b ≡ true) → (t && a) || (not t && b) ≡ true
choose true a b f g = or_inl a (not true && b) (f refl)
choose false a b f g = g refl

-- ---- a test b that a function told by r, of which the branch saw `!r`
pub refuted : {r b : Bool} → r ≡ b → not r ≡ true → b ≡ false
refuted {r} e n = sym e ∙ not-true r n

pub passed : {r b : Bool} → r ≡ b → not r ≡ false → b ≡ true
passed {r} e n = sym e ∙ not-false r n

-- ---- a range
pub within_of : (lo hi x : ℕ) → lo ≤ x → x ≤ hi → withinb lo hi x ≡ true
within_of lo hi x a b = and_both (le-leb lo x a) (le-leb x hi b)

pub within_is : (lo hi x : ℕ) → withinb lo hi x ≡ true → (lo ≤ x) × (x ≤ hi)
within_is lo hi x e = (leb-true lo x (and_left (leb lo x) (leb x hi) e), leb-true x hi (and_right (leb lo x) (leb x hi) e))

-- ---- a test at each number below a bound
pub all_at : (n : ℕ) (p : ℕ → Bool) → all n p ≡ true → (k : ℕ) → k < n → p k ≡ true
unfolding all
all_at zero p e k l = absurd (not-suc-le-zero l)
all_at (suc n) p e k l =
    ⊎_elim
    (λ q. ap p q ∙ and_right (all n p) (p n) e)
    (λ m. all_at n p (and_left (all n p) (p n) e) k m)
    (eq-or-lt_of_le (le_of_suc-le-suc l))

pub all_of : (n : ℕ) (p : ℕ → Bool) → ((k : ℕ) → k < n → p k ≡ true) → all n p ≡ true
unfolding all
all_of zero p h = refl
all_of (suc n) p h = and_both (all_of n p (λ k l. h k (omega arith))) (h n (lt-suc_self n))

pub all_none : (p : ℕ → Bool) → all 0 p ≡ true
unfolding all
all_none p = refl

pub all_more : (k : ℕ) (p : ℕ → Bool) → all k p ≡ true → p k ≡ true → all (k + 1) p ≡ true
unfolding all
all_more k p h e = rw (add-one, h) e

pub all_fault : (n k : ℕ) (p : ℕ → Bool) → k < n → p k ≡ false → all n p ≡ false
all_fault n k p l e = ⊎_elim (λ h. absurd (apart (all_at n p h k l) e)) (λ h. h) (dec (all n p))
