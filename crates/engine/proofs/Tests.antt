-- The soundness test put together from its parts, as the code takes them.
use Prim.Native.Nat.{ℕ, ◌+◌, ◌<◌}
use mathlib.Core.Path.{◌≡◌, sym, ◌∙◌}
use mathlib.Core.List.{List}
use mathlib.Core.Bool.{true, false, ◌&&◌, and-false}
use native.Mathlib.Omega.{arith}
use borrow.Author.Tests.{eq-eqb, ne_eqb}
use lib.ListN.{get_or, take}
use Rattle.drr.specs.declared.Table.{Table}
use Rattle.drr.specs.Limits.{most_flows, most_waiting}
use Rattle.drr.specs.State.{Line, sum_of, row_of, bytes_of, bytes_waiting}
use Rattle.drr.specs.Sound.{all, headb, flow_numbersb, cellsb, flowb, soundb}
use Rattle.drr.proofs.Bools.{all_fault}
use Rattle.drr.proofs.Facts.{row_bytes}
use Rattle.drr.proofs.Lengths.{bytes_next}

-- one cell more of what is added up
pub bytes_on : (row : List ℕ) (k : ℕ) {bytes next : ℕ} → bytes ≡ bytes_of (take k row) → next ≡ bytes + get_or row k 0 →
    next ≡ bytes_of (take (k + 1) row)
bytes_on row k so_far more = omega (arith, so_far, more, bytes_next row k)

module _ (T : Table) (l : Line) where
  pub head_fault : headb T l ≡ false → false ≡ soundb T l
  unfolding soundb
  head_fault h = sym (rw h)

  pub flow_fault : (f : ℕ) → f < most_flows → flowb T l f ≡ false → false ≡ soundb T l
  unfolding soundb
  flow_fault f low e = sym (rw (all_fault most_flows f (flowb T l) low e) (and-false (headb T l)))

  pub no_fault : headb T l ≡ true → all most_flows (flowb T l) ≡ true → true ≡ soundb T l
  unfolding soundb
  no_fault h a = sym (rw h a)

  pub numbers_fault : (f : ℕ) → flow_numbersb T l f ≡ false → flowb T l f ≡ false
  unfolding flowb
  numbers_fault f h = rw h

  pub cell_fault : (f k : ℕ) → k < most_waiting → cellsb T l f k ≡ false → flowb T l f ≡ false
  unfolding flowb
  cell_fault f k low e = rw (all_fault most_waiting k (cellsb T l f) low e, and-false (flow_numbersb T l f))

  -- what was added up over the cells, beside the sum
  module _ (f : ℕ) (h : flow_numbersb T l f ≡ true) (a : all most_waiting (cellsb T l f) ≡ true) (bytes : ℕ)
      (is : bytes ≡ bytes_of (take most_waiting (row_of l f))) where
    pub sum_fault : (bytes ≡ sum_of l f → ⊥) → flowb T l f ≡ false
    unfolding flowb
    sum_fault ne =
        rw (ne_eqb (sum_of l f) (bytes_waiting l f) (λ e. ne (is ∙ row_bytes T l f h a ∙ sym e)))
        (and-false (flow_numbersb T l f && all most_waiting (cellsb T l f)))

    pub flow_good : bytes ≡ sum_of l f → flowb T l f ≡ true
    unfolding flowb
    flow_good e = rw (h, a) (eq-eqb (sum_of l f) (bytes_waiting l f) (sym e ∙ is ∙ row_bytes T l f h a))
