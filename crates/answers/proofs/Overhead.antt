-- The line of an overhead, in a buffer with room for it.
use mathlib.Core.Path.{◌≡◌}
use mathlib.Core.Bool.{Bool, true, false, cond}
use mathlib.Core.List.{List, [], ◌∷◌, ◌++◌}
use Prim.Native.Nat.{ℕ, ◌≤◌}
use native.Mathlib.Omega.{arith}
use borrow.Author.Tests.{le-ltb, eq-eqb, ne_eqb}
use lib.Dec.{eqb}
use lib.ListN.{length, length-append}
use Rattle.text.specs.Spelt.{spelt}
use Rattle.text.specs.Text.{decimal, around, around_within}
use Rattle.text.proofs.Texts.{decimal_most}
use Rattle.answers.specs.Printed.{overhead_text, overhead_room, overhead_within}

abbrev word : List ℕ
word = spelt "overhead "

module _ (overhead room : ℕ) where
  pub overhead_none : overhead ≡ 0 → [] ≡ overhead_within overhead room
  unfolding overhead_within
  overhead_none e = rw (eq-eqb overhead 0 e)

  pub overhead_some : (n : ℕ) → (overhead ≡ 0 → ⊥) → n ≡ overhead → around_within word n (10 ∷ []) room ≡ overhead_within overhead room
  unfolding overhead_within
  overhead_some n some is = rw (is, ne_eqb overhead 0 some)

  pub overhead_fits : overhead_room ≤ room → overhead_within overhead room ≡ overhead_text overhead
  unfolding overhead_within around_within
  overhead_fits h = rw (le-ltb room overhead_room h)

pub overhead_most : (overhead : ℕ) → length (overhead_text overhead) ≤ overhead_room
overhead_most overhead = by (eqb overhead 0)
  where
    by : (t : Bool) → length (cond t [] (around word overhead (10 ∷ []))) ≤ overhead_room
    by true = omega arith
    by false =
        omega (arith, length-append (word ++ decimal overhead) (10 ∷ []), length-append word (decimal overhead), decimal_most overhead)
