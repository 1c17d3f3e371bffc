-- The table that setup makes, and its fresh line.
use mathlib.Core.Path.{◌≡◌, refl, ap}
use mathlib.Core.Bool.{Bool, true, false, false≢true, not, cond, ◌||◌}
use mathlib.Core.Logic.{inl, inr, ⊎_elim}
use mathlib.Core.List.{List, [], ◌∷◌}
use Prim.Native.Nat.{ℕ, zero, suc, ◌+◌, ◌≤◌, ◌<◌}
use native.Mathlib.Nat.{not-suc-le-zero}
use native.Mathlib.Omega.{arith}
use borrow.Author.Tests.{ltb-false, eqb-true, eqb-false}
use lib.Dec.{ltb, eqb}
use lib.ListN.{length, get_or, replicate, get_or-replicate, get_or-eq_default}
use Rattle.drr.specs.declared.Table.{Table}
use Rattle.drr.specs.declared.FlowRecord.{FlowRecord}
use Rattle.drr.specs.declared.Terms.{Terms}
use Rattle.drr.specs.Limits.{most_flows, least_quantum, most_quantum, least_maximum, most_maximum, most_overhead}
use Rattle.drr.specs.State.{Line, fresh_line, no_flows}
use Rattle.drr.specs.Sound.{quantumb, maximumb}
use Rattle.drr.specs.Facts.{Ranged, Sound}
use Rattle.drr.specs.Answers.{refused_at}
use Rattle.drr.specs.Setup.{cells, table_for, flows_answer, setup_answer, setup_table}
use Rattle.drr.proofs.Bools.{below?, by_test, within_is, or_left, or_right}

pub zero_at : (n f : ℕ) → get_or {A = ℕ} (replicate n 0) f 0 ≡ 0
zero_at zero f = refl
zero_at (suc n) zero = refl
zero_at (suc n) (suc f) = zero_at n f

abbrev no_lengths : List ℕ
no_lengths = replicate 32 0

empty_row : (f : ℕ) → f < 16 → get_or (replicate 16 no_lengths) f [] ≡ no_lengths
empty_row f low = get_or-replicate 16 f no_lengths [] low

pub fresh_sound : {T : Table} → Ranged T → Sound T (fresh_line T.n)
fresh_sound {T} r = record {
  shape = record {
    quanta_length = r.quanta_length;
    maxima_length = r.maxima_length;
    deficits_length = refl;
    counts_length = refl;
    sums_length = refl;
    rows_length = refl;
    row_length = λ f low. ap length (empty_row f low);
  };
  flows_few = r.flows_few;
  overhead_in_range = r.overhead_in_range;
  placed = ⊎_elim
      (λ some. inl (omega arith))
      (λ none. inr (omega arith, r.no_overhead (omega arith), omega arith, refl))
      (below? 0 T.n);
  flows = λ f low. rw (zero_at 16 f, empty_row f low) (record {
    used = λ l. let q = r.quantum_in f l in let m = r.maximum_in f l in
        record { quantum_least = q.0; quantum_most = q.1; maximum_least = m.0; maximum_most = m.1; count_most = omega arith };
    credit = λ l. record {
      visited_below = λ p. absurd (false≢true p);
      empty_zero = λ _ _. refl;
      waiting_below = λ _ some. absurd (omega arith);
    };
    unused = λ l. let z = r.unused_zero f l in record { no_quantum = z.0; no_maximum = z.1; no_deficit = refl; no_count = refl };
    waiting = λ k x y. absurd (omega arith);
    rest = λ k x y. zero_at 32 k;
    true_sum = refl;
  });
}

-- the table of a sound line is within setup's limits
pub sound_ranged : {T : Table} {l : Line} → Sound T l → Ranged T
sound_ranged {T} {l} ok = record {
  quanta_length = ok.shape.quanta_length;
  maxima_length = ok.shape.maxima_length;
  flows_few = ok.flows_few;
  overhead_in_range = ok.overhead_in_range;
  no_overhead = λ none. ⊎_elim (λ some. absurd (omega arith)) (λ p. p.1) ok.placed;
  quantum_in = λ f k. let u = (ok.flows f (omega arith)).used k in (u.quantum_least, u.quantum_most);
  maximum_in = λ f k. let u = (ok.flows f (omega arith)).used k in (u.maximum_least, u.maximum_most);
  unused_zero = λ f k. ⊎_elim
      (λ low. let u = (ok.flows f low).unused k in (u.no_quantum, u.no_maximum))
      (λ past. (
        get_or-eq_default T.quanta 0 (omega (arith, ok.shape.quanta_length)),
        get_or-eq_default T.maxima 0 (omega (arith, ok.shape.maxima_length)),
      ))
      (below? f 16);
}

pub no_flows_ranged : Ranged no_flows
no_flows_ranged = record {
  quanta_length = refl;
  maxima_length = refl;
  flows_few = omega arith;
  overhead_in_range = omega arith;
  no_overhead = λ _. refl;
  quantum_in = λ f l. absurd (omega arith);
  maximum_in = λ f l. absurd (omega arith);
  unused_zero = λ f l. (zero_at 16 f, zero_at 16 f);
}

-- ---- the cells of the table that setup makes
abbrev pub none : FlowRecord
none = record { quantum = 0; maximum = 0 }

pub cell_of : (p : FlowRecord → ℕ) (w i : ℕ) (xs : List FlowRecord) → i < w → i < length xs →
    get_or (cells p w xs) i 0 ≡ p (get_or xs i none)
cell_of p w i [] a b = absurd (not-suc-le-zero b)
cell_of p zero i (x ∷ xs) a b = absurd (not-suc-le-zero a)
cell_of p (suc w) zero (x ∷ xs) a b = refl
cell_of p (suc w) (suc i) (x ∷ xs) a b = cell_of p w i xs (omega arith) (omega arith)

cells_long : (p : FlowRecord → ℕ) (k : ℕ) (xs : List FlowRecord) → length (cells p k xs) ≡ k
cells_long p zero xs = refl
cells_long p (suc k) [] = ap suc (cells_long p k [])
cells_long p (suc k) (x ∷ xs) = ap suc (cells_long p k xs)

cell_past : (p : FlowRecord → ℕ) (k i : ℕ) (xs : List FlowRecord) → length xs ≤ i → get_or (cells p k xs) i 0 ≡ 0
cell_past p zero i xs h = refl
cell_past p (suc k) zero [] h = refl
cell_past p (suc k) (suc i) [] h = cell_past p k i [] (omega arith)
cell_past p (suc k) zero (x ∷ xs) h = absurd (omega arith)
cell_past p (suc k) (suc i) (x ∷ xs) h = cell_past p k i xs (omega arith)

-- each flow is in range where none is refused
pub record InRange (x : FlowRecord) : Type 0 where
  pub quantum : (least_quantum ≤ x.quantum) × (x.quantum ≤ most_quantum)
  pub maximum : (least_maximum ≤ x.maximum) × (x.maximum ≤ most_maximum)

first_in : (f : ℕ) (x : FlowRecord) (xs : List FlowRecord) → (flows_answer f (x ∷ xs)).refusal ≡ 0 →
    InRange x × ((flows_answer (f + 1) xs).refusal ≡ 0)
first_in f x xs e = go (quantumb x.quantum) refl (maximumb x.maximum) refl e
  where
    go : (a : Bool) → quantumb x.quantum ≡ a → (b : Bool) → maximumb x.maximum ≡ b →
        (cond (not a) (refused_at 6 f) (cond (not b) (refused_at 7 f) (flows_answer (f + 1) xs))).refusal ≡ 0 →
        InRange x × ((flows_answer (f + 1) xs).refusal ≡ 0)
    go true p true q h = (
      record {
        quantum = within_is least_quantum most_quantum x.quantum p;
        maximum = within_is least_maximum most_maximum x.maximum q;
      },
      h,
    )
    go true p false q h = absurd (omega arith)
    go false p b q h = absurd (omega arith)

flows_in_lem : (f : ℕ) (xs : List FlowRecord) → (flows_answer f xs).refusal ≡ 0 → (i : ℕ) → i < length xs → InRange (get_or xs i none)
flows_in_lem f [] e i l = absurd (omega arith)
flows_in_lem f (x ∷ xs) e zero l = (first_in f x xs e).0
flows_in_lem f (x ∷ xs) e (suc i) l = flows_in_lem (f + 1) xs (first_in f x xs e).1 i (omega arith)

pub made_ranged : (xs : List FlowRecord) (terms : Terms) → (setup_answer xs terms).refusal ≡ 0 → Ranged (table_for xs terms)
unfolding setup_answer
made_ranged xs terms e =
    go (ltb most_overhead terms.overhead) refl (eqb (length xs) 0 || ltb most_flows (length xs)) refl e
  where
    go : (o : Bool) → ltb most_overhead terms.overhead ≡ o → (b : Bool) → (eqb (length xs) 0 || ltb most_flows (length xs)) ≡ b →
        (cond o (refused_at 10 0) (cond b (refused_at 5 0) (flows_answer 0 xs))).refusal ≡ 0 → Ranged (table_for xs terms)
    go true w b p h = absurd (omega arith)
    go false w true p h = absurd (omega arith)
    go false w false p h =
        let few = ltb-false most_flows (length xs) (or_right (eqb (length xs) 0) (ltb most_flows (length xs)) p) in
        record {
          quanta_length = cells_long (λ r. r.quantum) 16 xs;
          maxima_length = cells_long (λ r. r.maximum) 16 xs;
          flows_few = few;
          overhead_in_range = ltb-false most_overhead terms.overhead w;
          no_overhead = λ none. absurd (eqb-false (length xs) 0 (or_left (eqb (length xs) 0) (ltb most_flows (length xs)) p) none);
          quantum_in = λ f l. rw (cell_of (λ r. r.quantum) 16 f xs (omega arith) l) (flows_in_lem 0 xs h f l).quantum;
          maximum_in = λ f l. rw (cell_of (λ r. r.maximum) 16 f xs (omega arith) l) (flows_in_lem 0 xs h f l).maximum;
          unused_zero = λ f l. (cell_past (λ r. r.quantum) 16 f xs l, cell_past (λ r. r.maximum) 16 f xs l);
        }

-- the table that setup gives, refused or not
pub setup_ranged : (xs : List FlowRecord) (terms : Terms) → Ranged (setup_table xs terms)
unfolding setup_table
setup_ranged xs terms = by_test Ranged (eqb (setup_answer xs terms).refusal 0)
    (λ e. made_ranged xs terms (eqb-true (setup_answer xs terms).refusal 0 e))
    (λ _. no_flows_ranged)
