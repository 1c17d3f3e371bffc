-- The lent lists, line by line.
use mathlib.Core.Path.{◌≡◌, refl, sym, ap, subst, ◌∙◌}
use mathlib.Core.List.{List, [], ◌∷◌, ◌++◌, append_assoc, append-nil}
use Prim.Native.Nat.{ℕ, ◌+◌, ◌*◌, ◌≤◌}
use native.Mathlib.Nat.{add-zero, mul-zero}
use native.Mathlib.Omega.{arith}
use lib.ListN.{length, set, take, drop, take-append-drop, length-append, length-drop}
use lib.Seq.{sets, sets-eq, take_at, drop_at, drop-drop, length-take-le}
use Rattle.runfile.specs.Listing.{written}

-- numbers stored one by one, from the index of line k on
stored : (w k i : ℕ) (o v : List ℕ) → i ≡ w * k → w * k + length v ≤ length o → sets o i v ≡ written w o k v
stored w k i o v p h = sets-eq v o i (omega arith) ∙ rw p

pub one : (o : List ℕ) (k a : ℕ) → 1 * k + 1 ≤ length o → set o k a ≡ written 1 o k (a ∷ [])
one o k a h = stored 1 k k o (a ∷ []) (omega arith) h

-- what stands before the end of v, and what stands from there on, once v is written from line k on
module _ (w : ℕ) (o v : List ℕ) (k : ℕ) (fits : w * k + length v ≤ length o) where
  front : length (take (w * k) o ++ v) ≡ w * k + length v
  front = length-append (take (w * k) o) v ∙ omega (arith, length-take-le (w * k) o (omega arith))

  pub written_length : length (written w o k v) ≡ length o
  written_length =
      length-append (take (w * k) o ++ v) (drop (w * k + length v) o) ∙ omega (arith, front, length-drop (w * k + length v) o)

  written_front : take (w * k + length v) (written w o k v) ≡ take (w * k) o ++ v
  written_front = take_at (take (w * k) o ++ v) (drop (w * k + length v) o) (w * k + length v) front

  written_back : drop (w * k + length v) (written w o k v) ≡ drop (w * k + length v) o
  written_back = drop_at (take (w * k) o ++ v) (drop (w * k + length v) o) (w * k + length v) front

-- A lent list of w numbers a line, which is to begin with L and was o₀: it is o, k lines are written, and `ahead` is still to come.
pub record Filling (w : ℕ) (o₀ L : List ℕ) (k : ℕ) (ahead o : List ℕ) : Type 0 where
  pub size : length o ≡ length o₀
  pub behind : drop (w * k) o ≡ drop (w * k) o₀
  pub rest : take (w * k) o ++ ahead ≡ L

pub filling_first : (w : ℕ) (o L : List ℕ) → Filling w o L 0 L o
filling_first w o L = record { size = refl; behind = refl; rest = ap (λ (i : ℕ). take i o ++ L) (mul-zero w) }

module _ {w : ℕ} {o₀ L : List ℕ} {k : ℕ} {ahead o : List ℕ} (F : Filling w o₀ L k ahead o) where
  -- what is to come, said otherwise
  pub filling_on : (X : List ℕ) → ahead ≡ X → Filling w o₀ L k X o
  filling_on X e = subst (λ (x : List ℕ). Filling w o₀ L k x o) e F

  -- its first numbers v are written
  pub filling_more : (v X : List ℕ) → ahead ≡ v ++ X → w * k + length v ≤ length o → (k' : ℕ) → w * k' ≡ w * k + length v →
      (o' : List ℕ) → o' ≡ written w o k v → Filling w o₀ L k' X o'
  filling_more v X e fits k' next o' is = subst (Filling w o₀ L k' X) (sym is) (record {
    size = written_length w o v k fits ∙ F.size;
    behind = ap (λ (i : ℕ). drop i (written w o k v)) next ∙ written_back w o v k fits
        ∙ sym (drop-drop (length v) (w * k) o) ∙ ap (drop (length v)) F.behind ∙ drop-drop (length v) (w * k) o₀
        ∙ ap (λ (i : ℕ). drop i o₀) (sym next);
    rest = ap (λ (i : ℕ). take i (written w o k v) ++ X) next ∙ ap (λ (l : List ℕ). l ++ X) (written_front w o v k fits)
        ∙ append_assoc (take (w * k) o) v X ∙ ap (λ (x : List ℕ). take (w * k) o ++ x) (sym e) ∙ F.rest;
  })

  -- nothing is to come
  pub filling_ends : ahead ≡ [] → o ≡ L ++ drop (w * k) o₀
  filling_ends e =
      sym (take-append-drop (w * k) o) ∙ ap (λ (x : List ℕ). take (w * k) o ++ x) F.behind
      ∙ ap (λ (x : List ℕ). x ++ drop (w * k) o₀)
      (sym (append-nil (take (w * k) o)) ∙ ap (λ (x : List ℕ). take (w * k) o ++ x) (sym e) ∙ F.rest)

-- no line: the list as it was
pub written_none : (w : ℕ) (o : List ℕ) (k : ℕ) → written w o k [] ≡ o
written_none w o k =
    ap (λ (l : List ℕ). l ++ drop (w * k + 0) o) (append-nil (take (w * k) o))
    ∙ ap (λ (i : ℕ). take (w * k) o ++ drop i o) (add-zero (w * k))
    ∙ take-append-drop (w * k) o
