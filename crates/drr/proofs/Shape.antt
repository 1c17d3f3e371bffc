-- What owning a state tells of its arrays: their lengths. So every State of the code is `Shaped`.
use Prim.Native.Nat.{ℕ, zero, suc, ◌<◌}
use mathlib.Core.Path.{◌≡◌, ap, ◌∙◌}
use mathlib.Core.List.{List, [], ◌∷◌}
use native.Mathlib.Nat.{le_of_suc-le-suc, not-suc-le-zero}
use native.Mathlib.Omega.{arith}
use mir.Val.{Val}
use denote.RattleType.{RattleType}
use denote.Laws.{Is}
use denote.Array.{Array, each}
use denote.Builtin.{u8, u16, u32}
use denote.Shadow.{shadow}
use lib.ListN.{length, get_or, length-map, get_or-map}
use Rattle.drr.specs.declared.FlowList.{FlowList}
use Rattle.drr.specs.declared.Row.{Row}
use Rattle.drr.specs.declared.State.{State}
use Rattle.drr.specs.State.{lengths_of, row_from, line_in}
use Rattle.drr.specs.Facts.{Shaped}
use Rattle.drr.specs.contracts.FlowList as flow_list
use Rattle.drr.specs.contracts.FlowRecord as flow_record
use Rattle.drr.specs.contracts.Row as row
use Rattle.drr.specs.contracts.State as state

-- an array of n elements: its list is n long, and each element is a value of its type
module _ (R : RattleType) where
  array_long : (n : ℕ) (xs : List R.Denot) (vs : List Val) → Is (Array R n) xs vs → length xs ≡ n
  array_long n xs vs g = g.1.0.1

  each_at : (P : R.Denot → Type 0) → ((x : R.Denot) (vs : List Val) → Is R x vs → P x) →
      (xs : List R.Denot) (us : List Val) →
      shadow (each R.Denot R.own_val xs us) → (d : R.Denot) (i : ℕ) → i < length xs → P (get_or xs i d)
  each_at P h [] us g d i l = absurd (not-suc-le-zero l)
  each_at P h (x ∷ xs) [] g d i l = absurd g
  each_at P h (x ∷ xs) (u ∷ us) g d zero l = h x (u ∷ []) g.0
  each_at P h (x ∷ xs) (u ∷ us) g d (suc i) l = each_at P h xs us g.1 d i (le_of_suc-le-suc l)

-- the seventeen records of a list as it is carried
pub list_long : (l : FlowList) (vs : List Val) → Is flow_list.the_row l vs → length l.records ≡ 17
list_long l vs g = array_long flow_record.the_row 17 l.records _ g.1.1.0

row_long : (r : Row) (vs : List Val) → Is row.the_row r vs → length r.lengths ≡ 32
row_long r vs g = array_long u16 32 r.lengths _ g.1.1.0

pub shaped : (s : State) (vs : List Val) → Is state.the_row s vs → Shaped s.table (line_in s.line)
shaped s vs g =
    let a = g.1.1.0.1.1 in
    let b = g.1.1.1.0.1.1 in
    let r = b.1.1.1.1.1.0 in
    let long : length s.line.rows ≡ 16 = array_long row.the_row 16 s.line.rows _ r in
    record {
      quanta_length = array_long u32 16 s.table.quanta _ a.1.1.0;
      maxima_length = array_long u32 16 s.table.maxima _ a.1.1.1.0;
      deficits_length = array_long u32 16 s.line.deficits _ b.0;
      counts_length = array_long u8 16 s.line.counts _ b.1.0;
      sums_length = array_long u32 16 s.line.sums _ b.1.1.0;
      rows_length = length-map s.line.rows lengths_of ∙ long;
      row_length = λ f low.
          ap length (get_or-map lengths_of s.line.rows f (row_from []))
          ∙ each_at row.the_row (λ (x : Row). length x.lengths ≡ 32) row_long s.line.rows r.0 r.1.1 (row_from []) f
          (omega arith);
    }
