-- The two figures: of which numbers they are the least, and how each is computed in one step.
use mathlib.Core.Path.{◌≡◌, ap, ◌∙◌}
use mathlib.Core.Bool.{Bool, true}
use mathlib.Core.Logic.{◌↔◌, ⊎_elim}
use Prim.Native.Nat.{ℕ, zero, suc, ◌+◌, ◌*◌, ◌-◌, ◌/◌, ◌≤◌, ◌<◌}
use native.Mathlib.Nat.{add-zero, zero-add, mul-le-mul_left, mul-le-mul_right, le_of_mul-le-mul_left, div-lt_iff_lt-mul, lt-mul-div-succ}
use native.Mathlib.Nat.{div-add-mod, mod-lt}
use native.Mathlib.Omega.{arith}
use borrow.Author.Tests.{leb-true, le-leb}
use lib.Dec.{leb}
use Rattle.drr.specs.declared.Table.{Table}
use Rattle.drr.specs.State.{quantum_of, maximum_charge}
use Rattle.drr.specs.Figures.{total, all_quanta, all_charges, lag, Least, least_from, reachesb, owed, wait}
use Rattle.drr.proofs.Bools.{apart, below?, by_test}
use Rattle.drr.proofs.Sums.{total_at}

-- ---- the least number of a kind
pub least_one : {P : ℕ → Type 0} {x y : ℕ} → Least P x → Least P y → x ≡ y
least_one {P} {x} {y} a b = omega (arith, a.least y b.holds, b.least x a.holds)

-- of two kinds that are one
pub least_of : {P R : ℕ → Type 0} {x : ℕ} → ((y : ℕ) → P y ↔ R y) → Least P x → Least R x
least_of {P} {R} {x} same a = record { holds = (same x).0 a.holds; least = λ y r. a.least y ((same y).1 r) }

-- the search finds it, where the test passes at the last of the numbers searched and at none before the first
pub least_from_lem : (p : ℕ → Bool) (x k : ℕ) → p (x + k) ≡ true → ((y : ℕ) → p y ≡ true → x ≤ y) → Least (λ y. p y ≡ true) (least_from p x k)
unfolding least_from
least_from_lem p x zero last low = record { holds = rw (add-zero x) at last; least = low }
least_from_lem p x (suc k) last low =
    by_test (Least (λ y. p y ≡ true)) (p x) (λ t. record { holds = t; least = low })
    (λ f. let e : x + suc k ≡ x + 1 + k = omega arith in
    least_from_lem p (x + 1) k (rw e at last) (λ y t. let ne : (x ≡ y → ⊥) = (λ q. apart (ap p q ∙ t) f) in omega (arith, low y t, ne)))

-- ---- division that rounds up, and division that goes one beyond
pub rounded_up : (F x : ℕ) → 0 < F → Least (λ b. x ≤ F * b) ((x + (F - 1)) / F)
rounded_up F x pos = record {
  holds = omega (arith, div-add-mod (x + (F - 1)) F, mod-lt (x + (F - 1)) pos);
  least = λ b h. let t : (x + (F - 1)) / F < suc b = (div-lt_iff_lt-mul pos).1 (omega arith) in omega arith;
}

pub one_beyond : (Q x : ℕ) → 0 < Q → Least (λ b. x < Q * b) (x / Q + 1)
one_beyond Q x pos = record {
  holds = lt-mul-div-succ x pos;
  least = λ b h. let t : x / Q < b = (div-lt_iff_lt-mul pos).1 (omega arith) in omega arith;
}

-- ---- owed
-- a flow with a quantum makes F more than 0
pub quanta_some : (T : Table) (i : ℕ) → i < T.n → 0 < quantum_of T i → 0 < all_quanta T
quanta_some T i l quantum = omega (arith, total_at T.n (quantum_of T) i l)

module _ (T : Table) (i : ℕ) (some : 0 < all_quanta T) where
  pub owed_least : (S : ℕ) → Least (λ x. quantum_of T i * S - lag T i ≤ all_quanta T * x) (owed T i S)
  unfolding owed
  owed_least S =
      let QS = quantum_of T i * S in
      least_of (λ y. (leb-true (QS - lag T i) (all_quanta T * y), le-leb (QS - lag T i) (all_quanta T * y)))
      (least_from_lem (reachesb T i S) 0 QS (le-leb (QS - lag T i) (all_quanta T * (0 + QS)) (omega (arith, mul-le-mul_right QS some)))
      (λ y t. omega arith))

  pub owed_formula : (S : ℕ) → owed T i S ≡ (quantum_of T i * S - lag T i + (all_quanta T - 1)) / all_quanta T
  owed_formula S = least_one (owed_least S) (rounded_up (all_quanta T) (quantum_of T i * S - lag T i) some)

  -- what is owed of S is at most b exactly where F × b, with C, reaches Q × S
  pub owed_at_most : (S b : ℕ) → quantum_of T i * S ≤ all_quanta T * b + lag T i → owed T i S ≤ b
  owed_at_most S b h = (owed_least S).least b (omega arith)

  pub owed_reaches : (S b : ℕ) → owed T i S ≤ b → quantum_of T i * S ≤ all_quanta T * b + lag T i
  owed_reaches S b h = omega (arith, (owed_least S).holds, mul-le-mul_left (all_quanta T) h)

  pub owed_grows : (S S' : ℕ) → S ≤ S' → owed T i S ≤ owed T i S'
  owed_grows S S' h =
      owed_at_most S (owed T i S') (omega (arith, owed_reaches S' (owed T i S') (omega arith), mul-le-mul_left (quantum_of T i) h))

  -- something is owed of S exactly where Q × S passes C
  pub owed_some : (S : ℕ) → (1 ≤ owed T i S) ↔ (lag T i < quantum_of T i * S)
  owed_some S = (
    λ h. ⊎_elim (λ less. less) (λ more. absurd (let z = owed_at_most S 0 (omega arith) in omega arith))
        (below? (lag T i) (quantum_of T i * S)),
    λ h. ⊎_elim (λ less. less) (λ none. absurd (let z = owed_reaches S 0 none in omega arith)) (below? 0 (owed T i S)),
  )

-- ---- wait
module _ (T : Table) (i : ℕ) (some : 0 < all_quanta T) (quantum : 0 < quantum_of T i) where
  pub wait_least : Least (λ S. 1 ≤ owed T i S) (wait T i)
  unfolding wait
  wait_least =
      least_of (λ S. (leb-true 1 (owed T i S), le-leb 1 (owed T i S)))
      (least_from_lem (λ S. leb 1 (owed T i S)) 0 (lag T i + 1)
      (le-leb 1 (owed T i (0 + (lag T i + 1)))
      ((owed_some T i some (0 + (lag T i + 1))).1 (omega (arith, mul-le-mul_right (0 + (lag T i + 1)) quantum))))
      (λ y t. omega arith))

  pub wait_formula : wait T i ≡ lag T i / quantum_of T i + 1
  wait_formula = least_one (least_of (owed_some T i some) wait_least) (one_beyond (quantum_of T i) (lag T i) quantum)

-- ---- "With one flow C is 0 and owed(S) is S."
no_lag : (Q l F L : ℕ) → F ≡ Q → L ≡ l → Q * (L - l) + (F - Q) * (Q + l) ≡ 0
no_lag Q l F L e e' =
    let a : L - l ≡ 0 = omega arith in
    let b : F - Q ≡ 0 = omega arith in
    rw (a, b) (omega arith)

least_all : (Q F C S : ℕ) → 0 < Q → F ≡ Q → C ≡ 0 → Least (λ x. Q * S - C ≤ F * x) S
least_all Q F C S pos e e' =
    rw (e, e') (record { holds = omega arith; least = λ x h. le_of_mul-le-mul_left {k = Q} (omega arith) pos })

module _ (T : Table) (one : T.n ≡ 1) (quantum : 0 < quantum_of T 0) where
  all_is : (f : ℕ → ℕ) → total T.n f ≡ f 0
  all_is f = ap (λ (n : ℕ). total n f) one ∙ zero-add (f 0)

  some : 0 < all_quanta T
  some = omega (arith, all_is (quantum_of T))

  pub one_flow_lag : lag T 0 ≡ 0
  one_flow_lag = no_lag (quantum_of T 0) (maximum_charge T 0) (all_quanta T) (all_charges T) (all_is (quantum_of T)) (all_is (maximum_charge T))

  pub one_flow_owed : (S : ℕ) → owed T 0 S ≡ S
  one_flow_owed S =
      least_one (owed_least T 0 some S) (least_all (quantum_of T 0) (all_quanta T) (lag T 0) S quantum (all_is (quantum_of T)) one_flow_lag)
