-- Document 01's order of visits, round the table: a flow's rank is its distance from the place.
use mathlib.Core.Path.{◌≡◌, refl, sym, subst, ◌∙◌}
use mathlib.Core.Logic.{◌≢◌, ◌⊎◌, inl, inr, ⊎_elim}
use mathlib.Core.List.{List}
use mathlib.Core.Bool.{Bool, true, false, cond}
use Prim.Native.Nat.{ℕ, zero, suc, ◌+◌, ◌≤◌, ◌<◌}
use native.Mathlib.Omega.{arith}
use lib.Dec.{ltb}
use borrow.Author.Tests.{ltb-true, ltb-false, lt-ltb, le-ltb}
use lib.ListN.{get_or}
use Rattle.std.specs.Prelude.{Option, Some, None}
use Rattle.drr.specs.declared.Table.{Table}
use Rattle.drr.specs.State.{Line}
use Rattle.drr.specs.Pick.{after, first_of, next}
use Rattle.drr.proofs.Bools.{by_test, same?, below?}
use Rattle.drr.proofs.Steps.{found_in}
use Rattle.drr.proofs.Ranks.{NoPass}
use Rattle.drr.proofs.Order.{Order}

-- round a table of n flows, from the one after p: p + 1, .., n - 1, then 0, .., p
unfoldable pub round : ℕ → ℕ → ℕ → ℕ
round n p x = cond (ltb p x) x (x + n)

pub round_past : (n p x : ℕ) → p < x → round n p x ≡ x
unfolding round
round_past n p x h = rw (lt-ltb p x h)

pub round_back : (n p x : ℕ) → x ≤ p → round n p x ≡ x + n
unfolding round
round_back n p x h = rw (le-ltb p x h)

-- seen from x, the flows past x keep their distance
shift : (n p x y : ℕ) → p < n → x < n → y < n → round n p x < round n p y → round n x y + round n p x ≡ round n p y + x
unfolding round
shift n p x y p<n x<n y<n = by (ltb p x) (ltb p y) (ltb x y) refl refl refl
  where
    by : (a b c : Bool) → ltb p x ≡ a → ltb p y ≡ b → ltb x y ≡ c → cond a x (x + n) < cond b y (y + n)
        → cond c y (y + n) + cond a x (x + n) ≡ cond b y (y + n) + x
    by true true true e f g h = omega (arith, ltb-true, ltb-false)
    by true true false e f g h = omega (arith, ltb-true, ltb-false)
    by true false true e f g h = omega (arith, ltb-true, ltb-false)
    by true false false e f g h = omega (arith, ltb-true, ltb-false)
    by false true true e f g h = omega (arith, ltb-true, ltb-false)
    by false true false e f g h = omega (arith, ltb-true, ltb-false)
    by false false true e f g h = omega (arith, ltb-true, ltb-false)
    by false false false e f g h = omega (arith, ltb-true, ltb-false)

-- after a visit to x every other flow comes before x
pub last : (n x i : ℕ) → x < n → i < n → i ≢ x → round n x i < round n x x
unfolding round
last n x i x<n i<n ne = by (ltb x i) (ltb x x) refl refl
  where
    by : (a b : Bool) → ltb x i ≡ a → ltb x x ≡ b → cond a i (i + n) < cond b x (x + n)
    by true true e f = omega (arith, ltb-true, ltb-false)
    by true false e f = omega (arith, ltb-true, ltb-false)
    by false true e f = omega (arith, ltb-true, ltb-false)
    by false false e f = omega (arith, ltb-true, ltb-false)

pub round_inj : (n p x i : ℕ) → x < n → i < n → round n p x ≡ round n p i → x ≡ i
unfolding round
round_inj n p x i x<n i<n = by (ltb p x) (ltb p i) refl refl
  where
    by : (a b : Bool) → ltb p x ≡ a → ltb p i ≡ b → cond a x (x + n) ≡ cond b i (i + n) → x ≡ i
    by true true e f h = omega (arith, ltb-true, ltb-false)
    by true false e f h = omega (arith, ltb-true, ltb-false)
    by false true e f h = omega (arith, ltb-true, ltb-false)
    by false false e f h = omega (arith, ltb-true, ltb-false)

pub round_nopass : (n p x i : ℕ) → p < n → x < n → i < n → x ≢ i → round n p x ≤ round n p i → NoPass n i (round n p) (round n x)
round_nopass n p x i p<n x<n i<n ne h j l j≢i k =
    let d : round n p x ≢ round n p i = λ e. ne (round_inj n p x i x<n i<n e) in
    omega (arith, shift n p x i p<n x<n i<n (omega arith), shift n p x j p<n x<n l (omega arith))

-- ---- the search round the table, by ranks: the flow at m steps from p has the rank p + m
module _ (n p : ℕ) (p<n : p < n) where
  AtStep : ℕ → ℕ → Type 0
  AtStep f m = (f < n) × ((f ≡ p + m) ⊎ (f + n ≡ p + m))

  step_on : (f m : ℕ) → m < n → AtStep f m → AtStep (after n f) (m + 1)
  unfolding AtStep
  step_on f m l at = by_test (λ (g : ℕ). (g < n) × ((g ≡ p + (m + 1)) ⊎ (g + n ≡ p + (m + 1)))) (ltb (f + 1) n)
      (λ e. (ltb-true (f + 1) n e, ⊎_elim (λ a. inl (omega arith)) (λ b. inr (omega arith)) at.1))
      (λ e. (
        omega arith,
        ⊎_elim (λ a. inr (omega (arith, ltb-false (f + 1) n e, at.0)))
            (λ b. absurd (omega (arith, ltb-false (f + 1) n e))) at.1,
      ))

  step_rank : (f m : ℕ) → 0 < m → m ≤ n → AtStep f m → round n p f ≡ p + m
  unfolding AtStep
  step_rank f m some l at = ⊎_elim (λ a. round_past n p f (omega arith) ∙ a) (λ b. round_back n p f (omega arith) ∙ b) at.1

  rank_most : (i : ℕ) → i < n → round n p i ≤ p + n
  rank_most i l = ⊎_elim (λ a. omega (arith, round_past n p i a)) (λ b. omega (arith, round_back n p i b)) (below? p i)

  rank_least : (i : ℕ) → i < n → p < round n p i
  rank_least i l = ⊎_elim (λ a. omega (arith, round_past n p i a)) (λ b. omega (arith, round_back n p i b)) (below? p i)

  -- of the flows past m steps: the one found comes soonest of those that wait; where none is found, none waits
  abbrev Says : List ℕ → ℕ → Option ℕ → Type 0
  Says w m None = (i : ℕ) → i < n → 0 < get_or w i 0 → p + m < round n p i → ⊥
  Says w m (Some x) = (i : ℕ) → i < n → 0 < get_or w i 0 → p + m < round n p i → round n p x ≤ round n p i

  search_says : (w : List ℕ) (k m f : ℕ) → m + k ≡ n → AtStep f m → Says w m (first_of n w k f)
  unfolding first_of AtStep
  search_says w zero m f e at = λ i l some past. omega (arith, rank_most i l)
  search_says w (suc k) m f e at =
      go (ltb 0 (get_or w (after n f) 0)) refl (first_of n w k (after n f)) (search_says w k (m + 1) (after n f) (omega arith) on)
    where
      on : AtStep (after n f) (m + 1)
      on = step_on f m (omega arith) at

      here : round n p (after n f) ≡ p + (m + 1)
      here = step_rank (after n f) (m + 1) (omega arith) (omega arith) on

      -- a flow that waits is past m + 1 steps, where the one at m + 1 does not wait
      further : ltb 0 (get_or w (after n f) 0) ≡ false → (i : ℕ) → i < n → 0 < get_or w i 0 → p + m < round n p i → p + (m + 1) < round n p i
      further off i l some past = ⊎_elim
          (λ same. let z : after n f ≡ i = round_inj n p (after n f) i on.0 l (here ∙ sym same) in
          absurd (omega (arith, rw z at (ltb-false 0 (get_or w (after n f) 0) off))))
          (λ ne. omega (arith, ne))
          (same? (round n p i) (p + (m + 1)))

      go : (b : Bool) → ltb 0 (get_or w (after n f) 0) ≡ b → (o : Option ℕ) → Says w (m + 1) o → Says w m (cond b (Some (after n f)) o)
      go true q o h = λ i l some past. omega (arith, here)
      go false q None h = λ i l some past. h i l some (further q i l some past)
      go false q (Some x) h = λ i l some past. h i l some (further q i l some past)

  pub search_best : (w : List ℕ) (x : ℕ) → first_of n w n p ≡ Some x → (i : ℕ) → i < n → 0 < get_or w i 0 → round n p x ≤ round n p i
  unfolding AtStep
  search_best w x e i l some =
      let h : Says w 0 (Some x) = subst (Says w 0) e (search_says w n 0 p (omega arith) (p<n, inl (omega arith))) in
      h i l some (omega (arith, rank_least i l))

  pub search_none : (w : List ℕ) → first_of n w n p ≡ None → (i : ℕ) → i < n → 0 < get_or w i 0 → ⊥
  unfolding AtStep
  search_none w e i l some =
      let h : Says w 0 None = subst (Says w 0) e (search_says w n 0 p (omega arith) (p<n, inl (omega arith))) in
      h i l some (omega (arith, rank_least i l))

-- ---- document 01's order: it keeps nothing in the line but the place
abbrev pub Placed : Table → Line → Type 0
Placed T l = l.place < T.n

pub cyclic : (T : Table) → Order T (Placed T) (λ l. round T.n l.place)
cyclic T =
    record {
      best = λ l p off x e. search_best T.n l.place p l.counts x e;
      none = λ l p off e. search_none T.n l.place p l.counts e;
      open_last = λ l p on j k ne. last T.n l.place j p k ne;
      opens = λ l p off x e i k w ne. round_nopass T.n l.place x i p (found l x e) k ne
          (search_best T.n l.place p l.counts x e i k w);
      closes = λ l p on i k w j m ne t. t;
      empties = λ l p on i k w j m ne t. t;
      sends = λ l p on i j m ne t. t;
      books = λ l p x length k i j m ne t. t;
      fit_opened = λ l p off x e. found l x e;
      fit_closed = λ l p on. p;
      fit_emptied = λ l p on. p;
      fit_sent = λ l p on. p;
      fit_put = λ l p x length k. p;
    }
  where
    found : (l : Line) (x : ℕ) → next T l ≡ Some x → x < T.n
    found l x e = (found_in T l x e).0
