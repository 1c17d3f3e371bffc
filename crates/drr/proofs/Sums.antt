-- Sums over the flows of a table, also with one flow left out.
use mathlib.Core.Path.{◌≡◌}
use mathlib.Core.List.{List}
use mathlib.Core.Logic.{◌≢◌}
use Prim.Native.Nat.{ℕ, zero, suc, ◌+◌, ◌*◌, ◌≤◌, ◌<◌}
use native.Mathlib.Decide.{ℕ_discrete}
use native.Mathlib.Numerals.{add-one}
use native.Mathlib.Omega.{arith}
use lib.ListN.{length, get_or, set}
use lib.Seq.{get_or-set_same, get_or-set_other}
use Rattle.drr.specs.Limits.{most_flows}
use Rattle.drr.specs.Figures.{total}

-- one flow more, as a loop counts
pub total_next : (n : ℕ) (f : ℕ → ℕ) → total (n + 1) f ≡ total n f + f n
total_next n f = rw (add-one n)

pub total_le : (n : ℕ) (f g : ℕ → ℕ) → ((j : ℕ) → j < n → f j ≤ g j) → total n f ≤ total n g
total_le zero f g h = omega arith
total_le (suc n) f g h = omega (arith, total_le n f g (λ j l. h j (omega arith)), h n (omega arith))

pub total_linear : (n : ℕ) (f g : ℕ → ℕ) (r : ℕ) → total n (λ j. f j * r + g j) ≡ total n f * r + total n g
total_linear zero f g r = omega arith
total_linear (suc n) f g r = omega (arith, total_linear n f g r)

-- where f is at most g at every flow but i: the sums, with f i and g i changed over
pub total_but : (n : ℕ) (f g : ℕ → ℕ) (i : ℕ) → i < n → ((j : ℕ) → j < n → j ≢ i → f j ≤ g j) → total n f + g i ≤ total n g + f i
total_but zero f g i l h = omega arith
total_but (suc n) f g i l h = by (ℕ_discrete i n) (λ k. total_but n f g i k (λ j t. h j (omega arith)))
  where
    by : Dec (i ≡ n) → (i < n → total n f + g i ≤ total n g + f i) → total (suc n) f + g i ≤ total (suc n) g + f i
    by (yes e) _ = rw e (omega (arith, total_le n f g (λ j t. h j (omega arith) (omega arith))))
    by (no ne) rest = omega (arith, rest (omega arith), h n (omega arith) (omega arith))

pub total_at : (n : ℕ) (f : ℕ → ℕ) (i : ℕ) → i < n → f i ≤ total n f
total_at n f i l = omega (arith, total_but n (λ j. 0) f i l (λ j k ne. omega arith))

pub total_add : (n : ℕ) (f g : ℕ → ℕ) → total n (λ j. f j + g j) ≡ total n f + total n g
total_add zero f g = omega arith
total_add (suc n) f g = omega (arith, total_add n f g)

pub total_none : (n : ℕ) → total n (λ j. 0) ≡ 0
total_none zero = omega arith
total_none (suc n) = omega (arith, total_none n)

pub total_each : (n x : ℕ) → total n (λ j. x) ≡ n * x
total_each zero x = omega arith
total_each (suc n) x = omega (arith, total_each n x)

-- a sum of which i alone counts
pub total_one : (n : ℕ) (f : ℕ → ℕ) (i : ℕ) → i < n → ((j : ℕ) → j ≢ i → f j ≡ 0) → total n f ≡ f i
total_one n f i l h =
    omega (arith, total_but n f (λ j. 0) i l (λ j k ne. omega (arith, h j ne)), total_none n, total_at n f i l)

pub total_most : (n : ℕ) (f : ℕ → ℕ) (b : ℕ) → ((j : ℕ) → j < n → f j ≤ b) → total n f ≤ n * b
total_most zero f b h = omega arith
total_most (suc n) f b h = omega (arith, total_most n f b (λ j l. h j (omega arith)), h n (omega arith))

-- ---- the sum of the numbers that a list has for the flows; shut, so that arithmetic takes it for one number
unfoldable pub over_flows : List ℕ → ℕ
over_flows xs = total most_flows (λ f. get_or xs f 0)

total_set : (n : ℕ) (xs : List ℕ) (i v : ℕ) → i < n → i < length xs →
    total n (λ f. get_or (set xs i v) f 0) + get_or xs i 0 ≡ total n (λ f. get_or xs f 0) + v
total_set n xs i v low inside =
    omega (
      arith,
      get_or-set_same xs i v 0 inside,
      total_but n (λ f. get_or (set xs i v) f 0) (λ f. get_or xs f 0) i low (λ j k ne. omega (arith, get_or-set_other xs i j v 0 ne)),
      total_but n (λ f. get_or xs f 0) (λ f. get_or (set xs i v) f 0) i low (λ j k ne. omega (arith, get_or-set_other xs i j v 0 ne)),
    )

pub sum_set : (xs : List ℕ) (i v : ℕ) → i < most_flows → i < length xs → over_flows (set xs i v) + get_or xs i 0 ≡ over_flows xs + v
unfolding over_flows
sum_set = total_set most_flows

pub sum_most : (xs : List ℕ) (b : ℕ) → ((f : ℕ) → f < most_flows → get_or xs f 0 ≤ b) → over_flows xs ≤ most_flows * b
unfolding over_flows
sum_most xs b = total_most most_flows (λ f. get_or xs f 0) b

pub sum_at : (xs : List ℕ) (f : ℕ) → f < most_flows → get_or xs f 0 ≤ over_flows xs
unfolding over_flows
sum_at xs = total_at most_flows (λ f. get_or xs f 0)

pub sum_none : (xs : List ℕ) → ((f : ℕ) → f < most_flows → get_or xs f 0 ≡ 0) → over_flows xs ≡ 0
sum_none xs h = omega (arith, sum_most xs 0 (λ f low. omega (arith, h f low)))
