-- The steps of a scheduler as stretches, for deficits kept in a list and an order of visits given by ranks: a flow of lower rank is
-- visited first.
use mathlib.Core.Path.{◌≡◌, refl, sym}
use mathlib.Core.Logic.{◌≢◌}
use mathlib.Core.Bool.{Bool, true, false, cond}
use mathlib.Core.List.{List}
use Prim.Native.Nat.{ℕ, ◌+◌, ◌*◌, ◌-◌, ◌≤◌, ◌<◌}
use native.Mathlib.Decide.{ℕ_discrete, dec_lt}
use native.Mathlib.Omega.{arith}
use lib.Dec.{ltb, eqb}
use lib.ListN.{length, get_or, set}
use lib.Seq.{get_or-set_same, get_or-set_other}
use borrow.Author.Tests.{lt-ltb, le-ltb, eq-eqb, ne_eqb}
use Rattle.drr.proofs.Stretches.{View, Stretch}

-- c at x, 0 elsewhere
unfoldable pub only : ℕ → ℕ → ℕ → ℕ
only x c j = cond (eqb x j) c 0

pub only_same : (x c : ℕ) → only x c x ≡ c
unfolding only
only_same x c = rw (eq-eqb x x refl)

pub only_other : (x c j : ℕ) → j ≢ x → only x c j ≡ 0
unfolding only
only_other x c j ne = rw (ne_eqb x j (λ e. ne (sym e)))

pub only_zero : (x j : ℕ) → only x 0 j ≡ 0
unfolding only
only_zero x j = by (eqb x j)
  where
    by : (b : Bool) → ◌≡◌ {A = ℕ} (cond b 0 0) 0
    by true = refl
    by false = refl

pub only_le : (x c j : ℕ) → only x c j ≤ c
unfolding only
only_le x c j = by (eqb x j)
  where
    by : (b : Bool) → cond b c 0 ≤ c
    by true = omega arith
    by false = omega arith

-- 1 where a < b, else 0
unfoldable pub less : ℕ → ℕ → ℕ
less a b = cond (ltb a b) 1 0

pub less_yes : {a b : ℕ} → a < b → less a b ≡ 1
unfolding less
less_yes {a} {b} h = rw (lt-ltb a b h)

pub less_no : {a b : ℕ} → b ≤ a → less a b ≡ 0
unfolding less
less_no {a} {b} h = rw (le-ltb a b h)

pub less_mono : (a b c d : ℕ) → (a < b → c < d) → less a b ≤ less c d
less_mono a b c d h = by (dec_lt a b)
  where
    by : Dec (a < b) → less a b ≤ less c d
    by (yes t) = omega (arith, less_yes t, less_yes (h t))
    by (no t) = omega (arith, less_no {a = a} {b = b} (omega arith))

pub less_top : (a b : ℕ) → less a b ≤ 1
less_top a b = by (dec_lt a b)
  where
    by : Dec (a < b) → less a b ≤ 1
    by (yes t) = omega (arith, less_yes t)
    by (no t) = omega (arith, less_no {a = a} {b = b} (omega arith))

-- ---- deficits in a list, and ranks
abbrev pub seen : List ℕ → (ℕ → ℕ) → ℕ → View
seen ds r i = record { deficit = λ j. get_or ds j 0; behind = λ j. less (r i) (r j) }

-- no flow that stood behind i passes it
abbrev pub NoPass : ℕ → ℕ → (ℕ → ℕ) → (ℕ → ℕ) → Type 0
NoPass n i r r' = (j : ℕ) → j < n → j ≢ i → r i < r j → r' i < r' j

module _ (n : ℕ) (Q : ℕ → ℕ) (i : ℕ) (ds : List ℕ) (r r' : ℕ → ℕ) where
  -- an arrival; a visit that closes with packets left
  pub rest : NoPass n i r r' → Stretch n Q i (seen ds r i) (λ j. 0) (seen ds r' i)
  rest np =
      record {
        visits = λ j. 0;
        spent = λ j l. omega arith;
        kept = omega arith;
        turns = λ j l ne. omega
            (arith, less_mono _ _ _ _ (np j l ne));
      }

  module _ (x : ℕ) (x<n : x < length ds) where
    -- a step at the flow x alone: a visits to it, c sent by it, y its deficit after
    at : (a c y : ℕ) (sent : ℕ → ℕ) → sent x ≡ c → ((j : ℕ) → j ≢ x → sent j ≡ 0)
        → y + c ≤ get_or ds x 0 + Q x * a → (x ≡ i → get_or ds x 0 + Q x * a ≤ y + c)
        → ((j : ℕ) → j < n → j ≢ i → only x a j + less (r i) (r j) ≤ only x a i + less (r' i) (r' j))
        → Stretch n Q i (seen ds r i) sent (seen (set ds x y) r' i)
    at a c y sent here else most least turns =
        record { visits = only x a; spent = λ j l. spent j (ℕ_discrete j x); kept = kept (ℕ_discrete i x); turns = turns }
      where
        spent : (j : ℕ) → Dec (j ≡ x) → sent j + get_or (set ds x y) j 0 ≤ get_or ds j 0 + Q j * only x a j
        spent j (yes e) = rw (e, here, only_same x a, get_or-set_same ds x y 0 x<n) (omega arith)
        spent j (no ne) = rw (else j ne, only_other x a j ne, get_or-set_other ds x j y 0 ne) (omega arith)

        kept : Dec (i ≡ x) → get_or ds i 0 + Q i * only x a i ≤ sent i + get_or (set ds x y) i 0
        kept (yes e) = rw (e, here, only_same x a, get_or-set_same ds x y 0 x<n) (omega (arith, least (sym e)))
        kept (no ne) = rw (else i ne, only_other x a i ne, get_or-set_other ds x i y 0 ne) (omega arith)

    turns_0 : NoPass n i r r' → (j : ℕ) → j < n → j ≢ i → only x 0 j + less (r i) (r j) ≤ only x 0 i + less (r' i) (r' j)
    turns_0 np j l ne = omega (arith, only_zero x j, less_mono _ _ _ _ (np j l ne))

    -- x sends c
    pub send : (c : ℕ) → c ≤ get_or ds x 0 → NoPass n i r r' →
        Stretch n Q i (seen ds r i) (only x c) (seen (set ds x (get_or ds x 0 - c)) r' i)
    send c h np = at 0 c _ (only x c) (only_same x c) (only_other x c) (omega arith) (λ e. omega arith) (turns_0 np)

    -- a visit to a flow other than i closes, and leaves it y of its deficit
    pub close : (y : ℕ) → y ≤ get_or ds x 0 → x ≢ i → NoPass n i r r' → Stretch n Q i (seen ds r i) (λ j. 0) (seen (set ds x y) r' i)
    close y h ne np = at 0 0 y (λ j. 0) refl (λ j _. refl) (omega arith) (λ e. absurd (ne e)) (turns_0 np)

    -- a visit to i opens: the order may change in any way
    pub visit_own : (y : ℕ) → y ≡ get_or ds x 0 + Q x → x ≡ i → Stretch n Q i (seen ds r i) (λ j. 0) (seen (set ds x y) r' i)
    visit_own y q e = at 1 0 y (λ j. 0) refl (λ j _. refl) (omega arith) (λ _. omega arith)
        (λ j l ne. rw e (omega (arith, only_same i 1, only_other i 1 j ne, less_top (r i) (r j))))

    -- a visit to a flow that is not behind i opens, and puts it behind i
    pub visit_other : (y : ℕ) → y ≡ get_or ds x 0 + Q x → x ≢ i → r x ≤ r i → r' i < r' x → NoPass n i r r'
        → Stretch n Q i (seen ds r i) (λ j. 0) (seen (set ds x y) r' i)
    visit_other y q x≢i h h' np =
        at 1 0 y (λ j. 0) refl (λ j _. refl) (omega arith) (λ _. omega arith) (λ j l ne. turns j l ne (ℕ_discrete j x))
      where
        turns : (j : ℕ) → j < n → j ≢ i → Dec (j ≡ x) → only x 1 j + less (r i) (r j) ≤ only x 1 i + less (r' i) (r' j)
        turns j l ne (yes e) = rw e (omega (arith, only_same x 1, less_no h, less_yes h'))
        turns j l ne (no e) = omega (arith, only_other x 1 j e, less_mono _ _ _ _ (np j l ne))
