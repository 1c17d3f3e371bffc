-- What a stretch of calls is to one waiting flow, whatever the order of visits, and the floor that follows from it.
use mathlib.Core.Path.{◌≡◌}
use mathlib.Core.Logic.{◌≢◌}
use Prim.Native.Nat.{ℕ, ◌+◌, ◌*◌, ◌-◌, ◌≤◌, ◌<◌}
use native.Mathlib.Nat.{add-le-add, mul-le-mul_left}
use native.Mathlib.Omega.{arith}
use Rattle.drr.specs.Figures.{total}
use Rattle.drr.proofs.Sums.{total_but, total_at, total_linear}

-- What flow i sees of a line: each flow's deficit, and which flows stand behind it (1) and which do not (0).
-- j stands behind i while i has no open visit and no visit to j can open before one to i does.
pub record View : Type 0 where
  pub deficit : ℕ → ℕ
  pub behind : ℕ → ℕ

-- From the view v to the view w the flows were sent what `sent` says, of n flows with the quanta Q:
--   spent   a flow is sent what it had, and a quantum for each visit to it, less what it has left (or lost, when a visit closed empty)
--   kept    flow i lost nothing
--   turns   each visit to j puts j behind i, where it was not, and there it stays until a visit to i
pub record Stretch (n : ℕ) (Q : ℕ → ℕ) (i : ℕ) (v : View) (sent : ℕ → ℕ) (w : View) : Type 0 where
  pub visits : ℕ → ℕ
  pub spent : (j : ℕ) → j < n → sent j + w.deficit j ≤ v.deficit j + Q j * visits j
  pub kept : v.deficit i + Q i * visits i ≤ sent i + w.deficit i
  pub turns : (j : ℕ) → j < n → j ≢ i → visits j + v.behind j ≤ visits i + w.behind j

-- What every sound line is to flow i, with m the most that a closed flow's deficit may be: an open flow may have a quantum more, and
-- stands behind i if it is another. While i is open nobody does: `closed` is 1 where i's visit is closed, and 0 where it is open.
pub record Fair (n : ℕ) (Q m : ℕ → ℕ) (i : ℕ) (v : View) : Type 0 where
  pub closed : ℕ
  pub others : (j : ℕ) → j < n → j ≢ i → v.deficit j ≤ m j + Q j * v.behind j
  pub own : v.deficit i + Q i * closed ≤ Q i + m i
  pub alone : (j : ℕ) → j < n → j ≢ i → v.behind j ≤ closed

-- ---- stretches: none; one after the other; one in which nothing is sent, and then another
pub start : (n : ℕ) (Q : ℕ → ℕ) (i : ℕ) (v : View) → Stretch n Q i v (λ j. 0) v
start n Q i v = record { visits = λ j. 0; spent = λ j l. omega arith; kept = omega arith; turns = λ j l ne. omega arith }

pub follow : {n : ℕ} {Q : ℕ → ℕ} {i : ℕ} {u v w : View} {f g : ℕ → ℕ} → Stretch n Q i u f v → Stretch n Q i v g w →
    Stretch n Q i u (λ j. f j + g j) w
follow {i = i} a b =
    record {
      visits = λ j. a.visits j + b.visits j;
      spent = λ j l. omega (arith, a.spent j l, b.spent j l);
      kept = omega (arith, a.kept, b.kept);
      turns = λ j l ne. omega (arith, a.turns j l ne, b.turns j l ne);
    }

pub quiet : {n : ℕ} {Q : ℕ → ℕ} {i : ℕ} {u v w : View} {f : ℕ → ℕ} → Stretch n Q i u (λ j. 0) v → Stretch n Q i v f w → Stretch n Q i u f w
quiet a b =
    let c = follow a b in
    record { visits = c.visits; spent = λ j l. omega (arith, c.spent j l); kept = omega (arith, c.kept); turns = c.turns }

-- ---- the floor, for deficits of at most m
-- C with m for the maximum charges
abbrev pub lag_with : ℕ → (ℕ → ℕ) → (ℕ → ℕ) → ℕ → ℕ
lag_with n Q m i = Q i * (total n m - m i) + (total n Q - Q i) * (Q i + m i)

-- (F and M: the sums of all quanta and of all m; G and N: those of the flows other than i; k: 1 if i is closed at the end, else 0)
numbers : (Q F G M N m S b d p k : ℕ) → F ≡ Q + G → M ≡ m + N → S + (Q * (p + k) + m) ≤ F * (p + k) + M + b → Q * p ≤ b + d →
    d + Q * k ≤ Q + m →
    Q * S ≤ F * b + (Q * N + G * (Q + m))
numbers Q F G M N m S b d p k e e' x y z =
    let s : S ≤ G * (p + k) + N + b = omega (arith, (rw (e, e') at x)) in
    let r : Q * (p + k) ≤ b + (Q + m) = omega arith in
    rw e (omega (arith, mul-le-mul_left Q s, mul-le-mul_left G r))

module _ {n : ℕ} {Q m : ℕ → ℕ} {i : ℕ} {v w : View} {sent : ℕ → ℕ} (i<n : i < n) (fv : Fair n Q m i v) (run : Stretch n Q i v sent w)
    (fw : Fair n Q m i w) where
  -- a flow other than i is sent at most m, a quantum for each visit to i, and one more where a visit to i is yet to come
  other : (j : ℕ) → j < n → j ≢ i → sent j ≤ Q j * (run.visits i + fw.closed) + m j
  other j l ne =
      omega (arith, fv.others j l ne, run.spent j l, mul-le-mul_left (Q j) (run.turns j l ne), mul-le-mul_left (Q j) (fw.alone j l ne))

  -- the visits to i are paid for
  own : Q i * (run.visits i + fw.closed) ≤ sent i + (Q i + m i)
  own = omega (arith, run.kept, fw.own)

  -- between i and one other flow: document 004's equation 19, without its fractions
  pub pairwise : (j : ℕ) → j < n → j ≢ i → Q i * sent j ≤ Q j * (sent i + (Q i + m i)) + Q i * m j
  pairwise j l ne = omega (arith, mul-le-mul_left (Q i) (other j l ne), mul-le-mul_left (Q j) own)

  pub floor : Q i * total n sent ≤ total n Q * sent i + lag_with n Q m i
  floor =
      numbers (Q i) (total n Q) (total n Q - Q i) (total n m) (total n m - m i) (m i) (total n sent) (sent i) (w.deficit i)
      (run.visits i) fw.closed
      (omega (arith, total_at n Q i i<n)) (omega (arith, total_at n m i i<n))
      (rw (← total_linear) (total_but n sent (λ j. Q j * (run.visits i + fw.closed) + m j) i i<n other))
      (omega (arith, run.kept)) fw.own

-- a larger m gives a larger C
pub lag_mono : (n : ℕ) (Q m m' : ℕ → ℕ) (i : ℕ) → i < n → ((j : ℕ) → j < n → m j ≤ m' j) → lag_with n Q m i ≤ lag_with n Q m' i
lag_mono n Q m m' i l h =
    add-le-add (mul-le-mul_left (Q i) (omega (arith, total_but n m m' i l (λ j k ne. h j k))))
    (mul-le-mul_left (total n Q - Q i) (omega (arith, h i l)))
