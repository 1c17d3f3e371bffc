-- All that the floor asks of an order of visits: ranks that say who is visited sooner, and that no step but a visit to i lets a flow pass
-- i, where i waits.
use mathlib.Core.Path.{◌≡◌}
use mathlib.Core.Logic.{◌≢◌}
use mathlib.Core.Bool.{true, false}
use Prim.Native.Nat.{ℕ, ◌≤◌, ◌<◌}
use Rattle.std.specs.Prelude.{Some, None}
use Rattle.drr.specs.declared.Table.{Table}
use Rattle.drr.specs.State.{Line, waiting_of}
use Rattle.drr.specs.Arrival.{put}
use Rattle.drr.specs.Pick.{next, open_at, closed, emptied, sent}
use Rattle.drr.proofs.Ranks.{NoPass}

-- `Fit l` is what the order itself keeps in the line
pub record Order (T : Table) (Fit : Line → Type 0) (rank : Line → ℕ → ℕ) : Type 0 where
  -- the flow to visit has the least rank of those that wait; where there is none, nobody waits
  pub best : (l : Line) → Fit l → l.opened ≡ false → (x : ℕ) → next T l ≡ Some x → (i : ℕ) → i < T.n → 0 < waiting_of l i →
      rank l x ≤ rank l i
  pub none : (l : Line) → Fit l → l.opened ≡ false → next T l ≡ None → (i : ℕ) → i < T.n → 0 < waiting_of l i → ⊥
  -- the flow with the open visit has the highest rank
  pub open_last : (l : Line) → Fit l → l.opened ≡ true → (j : ℕ) → j < T.n → j ≢ l.place → rank l j < rank l l.place
  -- a visit opens to another flow, closes, closes to an empty flow, sends; an arrival
  pub opens : (l : Line) → Fit l → l.opened ≡ false → (x : ℕ) → next T l ≡ Some x → (i : ℕ) → i < T.n → 0 < waiting_of l i → x ≢ i →
      NoPass T.n i (rank l) (rank (open_at T l x))
  pub closes : (l : Line) → Fit l → l.opened ≡ true → (i : ℕ) → i < T.n → 0 < waiting_of l i → NoPass T.n i (rank l) (rank (closed l))
  pub empties : (l : Line) → Fit l → l.opened ≡ true → (i : ℕ) → i < T.n → 0 < waiting_of l i →
      NoPass T.n i (rank l) (rank (closed (emptied l)))
  pub sends : (l : Line) → Fit l → l.opened ≡ true → (i : ℕ) → NoPass T.n i (rank l) (rank (sent T l l.place))
  pub books : (l : Line) → Fit l → (x length : ℕ) → x < T.n → (i : ℕ) → NoPass T.n i (rank l) (rank (put l x length))
  -- what the order keeps, is kept
  pub fit_opened : (l : Line) → Fit l → l.opened ≡ false → (x : ℕ) → next T l ≡ Some x → Fit (open_at T l x)
  pub fit_closed : (l : Line) → Fit l → l.opened ≡ true → Fit (closed l)
  pub fit_emptied : (l : Line) → Fit l → l.opened ≡ true → Fit (closed (emptied l))
  pub fit_sent : (l : Line) → Fit l → l.opened ≡ true → Fit (sent T l l.place)
  pub fit_put : (l : Line) → Fit l → (x length : ℕ) → x < T.n → Fit (put l x length)
