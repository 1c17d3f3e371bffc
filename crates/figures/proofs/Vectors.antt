-- Document 01's P1 to P12 and E2's figures: each entry of the tables in specs/Vectors.antt holds of the definitions.
use mathlib.Core.Path.{◌≡◌, refl, ◌∙◌}
use Prim.Native.Nat.{ℕ, ◌+◌, ◌-◌, ◌*◌, ◌/◌, ◌<◌}
use native.Mathlib.Omega.{arith}
use Rattle.drr.specs.declared.Table.{Table}
use Rattle.drr.specs.State.{quantum_of}
use Rattle.drr.specs.Facts.{Ranged}
use Rattle.drr.specs.Setup.{terms_of, table_for, setup_answer}
use Rattle.drr.specs.Figures.{all_quanta, lag, owed, wait}
use Rattle.drr.proofs.Calls.{fresh_idle}
use Rattle.drr.proofs.Tables.{made_ranged}
use Rattle.drr.proofs.Figures.{quanta_some, owed_formula, wait_formula}
use Rattle.figures.specs.Vectors.{worked, alone, twins, Every, marked, raised}

-- ---- a figure by its formula
module _ {T : Table} (r : Ranged T) (i : ℕ) (low : i < T.n) where
  some : 0 < all_quanta T
  some = quanta_some T i low (r.quantum_in i low).0

  pub waits : {v : ℕ} → lag T i / quantum_of T i + 1 ≡ v → wait T i ≡ v
  waits is = wait_formula T i some (r.quantum_in i low).0 ∙ is

  pub owes : (S : ℕ) {v : ℕ} → (quantum_of T i * S - lag T i + (all_quanta T - 1)) / all_quanta T ≡ v → owed T i S ≡ v
  owes S is = owed_formula T i some S ∙ is

worked_ranged : Ranged (table_for worked (terms_of 0))
unfolding setup_answer
worked_ranged = made_ranged worked (terms_of 0) refl

alone_ranged : Ranged (table_for alone (terms_of 0))
unfolding setup_answer
alone_ranged = made_ranged alone (terms_of 0) refl

twins_ranged : Ranged (table_for twins (terms_of 0))
unfolding setup_answer
twins_ranged = made_ranged twins (terms_of 0) refl

raised_ranged : Ranged (table_for worked (terms_of 20))
unfolding setup_answer
raised_ranged = made_ranged worked (terms_of 20) refl

-- ---- the claim
also : {A B : Type 0} → A → B → A × B
also a b = (a, b)

pub p1_to_p12 : Every (terms_of 0) marked
p1_to_p12 =
    also refl (also refl (also refl
    (also (waits worked_ranged 0 (omega arith) refl)
    (also (waits worked_ranged 1 (omega arith) refl)
    (also (waits worked_ranged 2 (omega arith) refl)
    (also (owes worked_ranged 0 (omega arith) 3220 refl)
    (also (owes worked_ranged 0 (omega arith) 3221 refl)
    (also (owes worked_ranged 0 (omega arith) 10000 refl)
    (also (also (owes alone_ranged 0 (omega arith) 7 refl) (waits alone_ranged 0 (omega arith) refl))
    (also (also (waits twins_ranged 0 (omega arith) refl) (waits twins_ranged 1 (omega arith) refl))
    (also (fresh_idle worked_ranged) tt)))))))))))

pub with_20 : Every (terms_of 20) raised
with_20 = also refl (also (waits raised_ranged 0 (omega arith) refl) tt)
