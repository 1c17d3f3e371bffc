-- "The two figures" of a flow: what it is owed of S bytes on the line, and how long it may wait for the first.
use Rattle.std.specs.Prelude.{Bool, cond, ℕ, zero, suc, ◌+◌, ◌*◌, ◌-◌, ◌≤◌, leb}
use Rattle.drr.specs.declared.Table.{Table}
use Rattle.drr.specs.State.{quantum_of, maximum_charge}

-- f 0 + f 1 + .. + f (n - 1)
abbrev pub total : ℕ → (ℕ → ℕ) → ℕ
total zero f = 0
total (suc n) f = total n f + f n

-- "F is the sum of all quanta and L the sum of all maxima", E2: "with each l raised by the overhead", so of all maximum charges.
abbrev pub all_quanta : Table → ℕ
all_quanta T = total T.n (quantum_of T)

abbrev pub all_charges : Table → ℕ
all_charges T = total T.n (maximum_charge T)

-- "For flow i, C = Q × (L - l) + (F - Q) × (Q + l), with Q and l those of flow i", l raised too
abbrev pub lag : Table → ℕ → ℕ
lag T i =
    quantum_of T i * (all_charges T - maximum_charge T i) + (all_quanta T - quantum_of T i) * (quantum_of T i + maximum_charge T i)

-- "the least whole number that ..", "the least S at which .."
pub record Least (P : ℕ → Type 0) (x : ℕ) : Type 0 where
  pub holds : P x
  pub least : (y : ℕ) → P y → x ≤ y

-- the least number at which the test passes, from x on, of k numbers; the one after them where it passes at none
unfoldable pub least_from : (ℕ → Bool) → ℕ → ℕ → ℕ
least_from p x zero = x
least_from p x (suc k) = cond (p x) x (least_from p (x + 1) k)

-- "multiplied by F, is at least Q × S - C". (A difference below 0 is 0 here, which any number that is not negative reaches.)
abbrev pub reachesb : Table → ℕ → ℕ → ℕ → Bool
reachesb T i S x = leb (quantum_of T i * S - lag T i) (all_quanta T * x)

-- "the least whole number that is not negative and, multiplied by F, is at least Q × S - C": the number Q × S does, where F is not 0
unfoldable pub owed : Table → ℕ → ℕ → ℕ
owed T i S = least_from (reachesb T i S) 0 (quantum_of T i * S)

-- "the least S at which owed is 1 or more": the number C + 1 is one, where Q is not 0
unfoldable pub wait : Table → ℕ → ℕ
wait T i = least_from (λ S. leb 1 (owed T i S)) 0 (lag T i + 1)
