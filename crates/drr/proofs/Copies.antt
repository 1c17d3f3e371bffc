-- A loop that copies a list element by element.
use mathlib.Core.Path.{◌≡◌, sym, ap, ◌∙◌}
use mathlib.Core.List.{List}
use Prim.Native.Nat.{ℕ, ◌+◌, ◌<◌}
use native.Mathlib.Omega.{arith}
use native.Mathlib.Numerals.{add-one}
use native.Mathlib.Nat.{zero-add}
use lib.ListN.{length, get_or, set}
use lib.Seq.{paste, paste-suc}

pub copy_turn : {A : Type 0} (z s : List A) (k : ℕ) (d : A) → k < length z → k < length s →
    set (paste z 0 s k) k (get_or s k d) ≡ paste z 0 s (k + 1)
copy_turn {A} z s k d hz hs =
    ap (λ (i : ℕ). set (paste z 0 s k) i (get_or s k d)) (sym (zero-add k))
    ∙ paste-suc z 0 s k d (omega arith) hs
    ∙ ap (λ (i : ℕ). paste z 0 s i) (sym (add-one k))
