-- A flow's row: the lengths that wait in it once one is put at the end or the oldest is taken, and their bytes.
use mathlib.Core.Path.{◌≡◌, refl, sym, ap, ◌∙◌}
use mathlib.Core.List.{List, [], ◌∷◌, ◌++◌}
use Prim.Native.Nat.{ℕ, zero, suc, ◌+◌, ◌*◌, ◌-◌, ◌≤◌, ◌<◌}
use native.Mathlib.Numerals.{add-one}
use native.Mathlib.Omega.{arith}
use lib.ListN.{length, get_or, set, take, drop, length-append, length-drop}
use lib.Seq.{take-append-le}
use Rattle.drr.specs.State.{bytes_of, shifted_of}

-- ---- cell by cell
snoc_at : (row : List ℕ) (k : ℕ) → get_or (row ++ 0 ∷ []) k 0 ≡ get_or row k 0
snoc_at [] zero = refl
snoc_at [] (suc k) = refl
snoc_at (x ∷ xs) zero = refl
snoc_at (x ∷ xs) (suc k) = snoc_at xs k

pub shift_at : (row : List ℕ) (k : ℕ) → get_or (shifted_of row) k 0 ≡ get_or row (k + 1) 0
shift_at [] k = snoc_at [] k
shift_at (x ∷ xs) k = snoc_at xs k ∙ sym (ap (λ (j : ℕ). get_or (x ∷ xs) j 0) (add-one k))

pub shift_long : (row : List ℕ) → length row ≡ 32 → length (shifted_of row) ≡ 32
shift_long row e = length-append (drop 1 row) (0 ∷ []) ∙ omega (arith, length-drop 1 row)

-- ---- the lengths that wait
-- an arrival puts one behind them
pub take_set : (row : List ℕ) (c v : ℕ) → c < length row → take (c + 1) (set row c v) ≡ take c row ++ (v ∷ [])
take_set [] c v h = absurd (omega arith)
take_set (x ∷ xs) zero v h = refl
take_set (x ∷ xs) (suc c) v h =
    ap (λ (k : ℕ). take k (x ∷ set xs c v)) (add-one (suc c))
    ∙ ap (λ (r : List ℕ). x ∷ r) (ap (λ (k : ℕ). take k (set xs c v)) (sym (add-one c)) ∙ take_set xs c v (omega arith))

-- sending takes the first of them
pub take_first : (row : List ℕ) (c : ℕ) → 0 < c → c ≤ length row → take c row ≡ get_or row 0 0 ∷ take (c - 1) (shifted_of row)
take_first [] c some most = absurd (omega arith)
take_first (x ∷ xs) zero some most = absurd (omega arith)
take_first (x ∷ xs) (suc c) some most =
    let e : suc c - 1 ≡ c = omega arith in
    ap (λ (r : List ℕ). x ∷ r) (sym (take-append-le c xs (0 ∷ []) (omega arith)) ∙ ap (λ (k : ℕ). take k (xs ++ 0 ∷ [])) (sym e))

-- ---- their bytes
pub bytes_append : (xs ys : List ℕ) → bytes_of (xs ++ ys) ≡ bytes_of xs + bytes_of ys
bytes_append [] ys = omega arith
bytes_append (x ∷ xs) ys = omega (arith, bytes_append xs ys)

pub bytes_put : (row : List ℕ) (c v : ℕ) → c < length row → bytes_of (take (c + 1) (set row c v)) ≡ bytes_of (take c row) + v
bytes_put row c v h = ap bytes_of (take_set row c v h) ∙ bytes_append (take c row) (v ∷ []) ∙ omega arith

pub bytes_taken : (row : List ℕ) (c : ℕ) → 0 < c → c ≤ length row →
    bytes_of (take c row) ≡ get_or row 0 0 + bytes_of (take (c - 1) (shifted_of row))
bytes_taken row c some most = ap bytes_of (take_first row c some most)

-- one cell more, as a loop adds them
pub bytes_next : (row : List ℕ) (k : ℕ) → bytes_of (take (k + 1) row) ≡ bytes_of (take k row) + get_or row k 0
bytes_next [] zero = refl
bytes_next [] (suc k) = ap (λ (j : ℕ). bytes_of (take {A = ℕ} j [])) (add-one (suc k))
bytes_next (x ∷ xs) zero = omega arith
bytes_next (x ∷ xs) (suc k) =
    ap (λ (j : ℕ). bytes_of (take j (x ∷ xs))) (add-one (suc k))
    ∙ (let e = ap (λ (j : ℕ). bytes_of (take j xs)) (sym (add-one k)) ∙ bytes_next xs k in omega arith)

-- .. of cells of at most m bytes
pub bytes_most : (row : List ℕ) (m k : ℕ) → ((j : ℕ) → j < k → get_or row j 0 ≤ m) → bytes_of (take k row) ≤ k * m
bytes_most row m zero h = omega arith
bytes_most row m (suc k) h =
    let e = ap (λ (j : ℕ). bytes_of (take j row)) (sym (add-one k)) ∙ bytes_next row k in
    omega (arith, bytes_most row m k (λ j l. h j (omega arith)), h k (omega arith))

-- .. the free cells of a row are zero, and add nothing
pub bytes_free : (row : List ℕ) (c k : ℕ) → ((j : ℕ) → j < c + k → c ≤ j → get_or row j 0 ≡ 0) →
    bytes_of (take (c + k) row) ≡ bytes_of (take c row)
bytes_free row c zero h = let e : c + zero ≡ c = omega arith in ap (λ (j : ℕ). bytes_of (take j row)) e
bytes_free row c (suc k) h =
    let e : c + suc k ≡ c + k + 1 = omega arith in
    ap (λ (j : ℕ). bytes_of (take j row)) e ∙ bytes_next row (c + k)
    ∙ omega (arith, bytes_free row c k (λ j l. h j (omega arith)), h (c + k) (omega arith) (omega arith))
