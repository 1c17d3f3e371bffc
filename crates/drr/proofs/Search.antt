-- The search round the table, one flow at a time.
use mathlib.Core.Path.{◌≡◌, refl}
use mathlib.Core.Bool.{Bool, true, false, cond}
use mathlib.Core.List.{List}
use Prim.Native.Nat.{ℕ, zero, suc, ◌+◌, ◌-◌, ◌≤◌, ◌<◌}
use native.Mathlib.Omega.{arith}
use native.Mathlib.Numerals.{sub-one}
use borrow.Author.Tests.{lt-ltb, le-ltb, ltb-true}
use lib.Dec.{ltb}
use lib.ListN.{get_or}
use Rattle.std.specs.Prelude.{Some, None}
use Rattle.drr.specs.Limits.{most_flows}
use Rattle.drr.specs.Pick.{after, first_of}
use Rattle.drr.proofs.Bools.{by_test}

pub first_here : (n : ℕ) (w : List ℕ) (k f : ℕ) → 0 < k → 0 < get_or w (after n f) 0 → first_of n w k f ≡ Some (after n f)
unfolding first_of
first_here n w zero f h p = absurd (omega arith)
first_here n w (suc k) f h p = rw (lt-ltb 0 (get_or w (after n f) 0) p)

pub first_on : (n : ℕ) (w : List ℕ) (k f : ℕ) → 0 < k → get_or w (after n f) 0 ≤ 0 → first_of n w k f ≡ first_of n w (k - 1) (after n f)
unfolding first_of
first_on n w zero f h p = absurd (omega arith)
first_on n w (suc k) f h p = rw (le-ltb 0 (get_or w (after n f) 0) p, sub-one (suc k))

pub first_none : (n : ℕ) (w : List ℕ) (k f : ℕ) → k ≤ 0 → first_of n w k f ≡ None
unfolding first_of
first_none n w zero f h = refl
first_none n w (suc k) f h = absurd (omega arith)

-- with nothing waiting none is found
pub first_empty : (n : ℕ) (w : List ℕ) (k f : ℕ) → ((g : ℕ) → get_or w g 0 ≡ 0) → first_of n w k f ≡ None
unfolding first_of
first_empty n w zero f h = refl
first_empty n w (suc k) f h = rw (h (after n f)) (first_empty n w k (after n f) h)

pub after_in : (n f : ℕ) → 0 < n → after n f < n
after_in n f h = by_test (λ (g : ℕ). g < n) (ltb (f + 1) n) (λ e. ltb-true (f + 1) n e) (λ _. h)

pub after_low : (n f : ℕ) → n ≤ most_flows → after n f < 16
after_low n f h = by_test (λ (g : ℕ). g < 16) (ltb (f + 1) n) (λ e. omega (arith, ltb-true (f + 1) n e)) (λ _. omega arith)

-- the flow that is found is in the table, and a packet waits there
pub found_waits : (n : ℕ) (w : List ℕ) (k f g : ℕ) → 0 < n → first_of n w k f ≡ Some g → (g < n) × (0 < get_or w g 0)
unfolding first_of
found_waits n w zero f g h e = absurd (let z : ◌≡◌ {A = ℕ} 0 1 = cc in omega arith)
found_waits n w (suc k) f g h e = go (ltb 0 (get_or w (after n f) 0)) refl (found_waits n w k (after n f) g h) e
  where
    go : (b : Bool) → ltb 0 (get_or w (after n f) 0) ≡ b → (first_of n w k (after n f) ≡ Some g → (g < n) × (0 < get_or w g 0)) →
        cond b (Some (after n f)) (first_of n w k (after n f)) ≡ Some g → (g < n) × (0 < get_or w g 0)
    go true q on p =
        let here : after n f ≡ g = cc in
        (rw here at (after_in n f h), rw here at (ltb-true 0 (get_or w (after n f) 0) q))
    go false q on p = on p
