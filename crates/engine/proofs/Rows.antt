-- A row of a stored line, read and written, as the definitions have it.
use mathlib.Core.Path.{◌≡◌, sym, ap, ◌∙◌}
use mathlib.Core.List.{List, [], ◌∷◌, ◌++◌}
use Prim.Native.Nat.{ℕ}
use native.Mathlib.Omega.{arith}
use lib.ListN.{length, get_or, set, drop, get_or-map, length-drop, drop_of_length-le}
use lib.Seq.{take_all, drop-cons, set-append_seam}
use Rattle.std.proofs.lemmas.List.{map-set}
use Rattle.std.specs.List.{copy_within}
use Rattle.drr.specs.declared.Row.{Row}
use Rattle.drr.specs.declared.Table.{Table}
use Rattle.drr.specs.declared.Line.{Line as StoredLine}
use Rattle.drr.specs.State.{lengths_of, row_from, cells_in, line_in, charge, oldest_charge, shifted_of}

pub row_at : (rows : List Row) (f : ℕ) → get_or (cells_in rows) f [] ≡ (get_or rows f (row_from [])).lengths
row_at rows f = get_or-map lengths_of rows f (row_from [])

-- what flow f's oldest packet is charged
pub oldest_at : (T : Table) (l : StoredLine) (f : ℕ) →
    oldest_charge T (line_in l) f ≡ charge T (get_or (get_or l.rows f (row_from [])).lengths 0 0)
oldest_at T l f = ap (λ (r : List ℕ). charge T (get_or r 0 0)) (row_at l.rows f)

pub row_put : (rows : List Row) (f : ℕ) (lengths : List ℕ) → cells_in (set rows f (row_from lengths)) ≡ set (cells_in rows) f lengths
row_put rows f lengths = map-set lengths_of rows f (row_from lengths)

-- a row moved down by one length, with a zero in its last cell
pub row_shifted : (row : List ℕ) → length row ≡ 32 → set (copy_within row 1 (length row) 0) 31 0 ≡ shifted_of row
row_shifted row long =
    let rest : length (drop 1 row) ≡ 31 = omega (arith, length-drop 1 row) in
    rw (long, take_all 31 (drop 1 row) (omega arith), drop-cons row 31 0 (omega arith), drop_of_length-le row {i = 32} (omega arith))
    (ap (λ (i : ℕ). set (drop 1 row ++ get_or row 31 0 ∷ []) i 0) (sym rest)
    ∙ set-append_seam (drop 1 row) (get_or row 31 0) [] 0)
