-- Setup on a list of records: its answer flow by flow, the cells of its table, and what the three ways of the code give.
use mathlib.Core.Path.{◌≡◌, refl, sym, ap, ◌∙◌}
use mathlib.Core.Bool.{Bool, true, false, ◌||◌}
use mathlib.Core.List.{List, [], ◌∷◌}
use mathlib.Core.Logic.{◌⊎◌, ⊎_elim}
use Prim.Native.Nat.{ℕ, zero, suc, ◌+◌, ◌≤◌, ◌<◌}
use native.Mathlib.Nat.{not-suc-le-zero}
use native.Mathlib.Numerals.{add-one}
use native.Mathlib.Omega.{arith}
use borrow.Author.Tests.{lt-ltb, le-ltb, lt-leb, le-leb, ne_eqb}
use lib.Dec.{eqb, ltb}
use lib.ListN.{length, get_or, set, take, drop, length-take}
use lib.Seq.{length-take-le, drop-cons}
use Rattle.drr.specs.declared.FlowRecord.{FlowRecord}
use Rattle.drr.specs.declared.Table.{Table}
use Rattle.drr.specs.declared.Refusal.{Refusal}
use Rattle.drr.specs.declared.Terms.{Terms}
use Rattle.drr.specs.Limits.{most_flows, most_overhead, least_quantum, most_quantum, least_maximum, most_maximum}
use Rattle.drr.specs.State.{no_flows}
use Rattle.drr.specs.Sound.{withinb}
use Rattle.drr.specs.Answers.{Answer, number_of, fine, refused_at}
use Rattle.drr.specs.Setup.{cells, table_for, flows_answer, setup_answer, setup_table}
use Rattle.drr.proofs.Bools.{below?, or_inr}
use Rattle.drr.proofs.Papers.{number_some}
use Rattle.drr.proofs.Tables.{none}

-- ---- the test of a range
out_of : (least most x : ℕ) → (x < least) ⊎ ((least ≤ x) × (most < x)) → withinb least most x ≡ false
out_of least most x = ⊎_elim (λ low. rw (lt-leb least x low)) (λ high. rw (le-leb least x high.0, lt-leb x most high.1))

within : (least most x : ℕ) → least ≤ x → x ≤ most → withinb least most x ≡ true
within least most x low high = rw (le-leb least x low, le-leb x most high)

-- ---- the records from flow f on
module _ (rs : List FlowRecord) (f : ℕ) (more : f < length rs) where
  abbrev here : FlowRecord
  here = get_or rs f none

  one_more : drop f rs ≡ here ∷ drop (f + 1) rs
  one_more = drop-cons rs f none more ∙ ap (λ (k : ℕ). here ∷ drop k rs) (sym (add-one f))

  pub bad_quantum : (here.quantum < least_quantum) ⊎ ((least_quantum ≤ here.quantum) × (most_quantum < here.quantum)) →
      refused_at 6 f ≡ flows_answer f (drop f rs)
  bad_quantum out = sym (rw (one_more, out_of least_quantum most_quantum here.quantum out))

  pub bad_maximum : least_quantum ≤ here.quantum → here.quantum ≤ most_quantum →
      (here.maximum < least_maximum) ⊎ ((least_maximum ≤ here.maximum) × (most_maximum < here.maximum)) →
      refused_at 7 f ≡ flows_answer f (drop f rs)
  bad_maximum low high out =
      sym (rw (one_more, within least_quantum most_quantum here.quantum low high, out_of least_maximum most_maximum here.maximum out))

-- ---- the cells of the table, one record more
cells_next : (p : FlowRecord → ℕ) (w i : ℕ) (xs : List FlowRecord) → i < length xs →
    set (cells p w (take i xs)) i (p (get_or xs i none)) ≡ cells p w (take (suc i) xs)
cells_next p w i [] l = absurd (not-suc-le-zero l)
cells_next p zero i (x ∷ xs) l = refl
cells_next p (suc w) zero (x ∷ xs) l = refl
cells_next p (suc w) (suc i) (x ∷ xs) l = ap (λ (r : List ℕ). p x ∷ r) (cells_next p w i xs (omega (arith, l)))

pub cells_more : (p : FlowRecord → ℕ) (xs : List FlowRecord) (i : ℕ) (cs : List ℕ) → cs ≡ cells p 16 (take i xs) → i < length xs →
    set cs i (p (get_or xs i none)) ≡ cells p 16 (take (i + 1) xs)
cells_more p xs i cs is l =
    ap (λ (k : List ℕ). set k i (p (get_or xs i none))) is ∙ cells_next p 16 i xs l
    ∙ ap (λ (k : ℕ). cells p 16 (take k xs)) (sym (add-one i))

-- ---- an answer and a table are setup's
pub record Gives (xs : List FlowRecord) (terms : Terms) (a : Answer) (T : Table) : Type 0 where
  pub answers : a ≡ setup_answer xs terms
  pub makes : T ≡ setup_table xs terms

abbrev pub Counted : List FlowRecord → Bool → Type 0
Counted xs b = (eqb (length xs) 0 || ltb most_flows (length xs)) ≡ b

module _ (xs : List FlowRecord) (terms : Terms) where
  abbrev pub Over : Bool → Type 0
  Over b = ltb most_overhead terms.overhead ≡ b

  pub gives_over : Over true → Gives xs terms (refused_at 10 0) no_flows
  unfolding setup_table setup_answer
  gives_over o = record { answers = rw o; makes = rw o }

  pub gives_count : Over false → Counted xs true → Gives xs terms (refused_at 5 0) no_flows
  unfolding setup_table setup_answer
  gives_count o e = record { answers = rw (o, e); makes = rw (o, e) }

  pub gives_bad : Over false → Counted xs false → (why : Refusal) (place : ℕ) → refused_at (number_of why) place ≡ flows_answer 0 xs →
      Gives xs terms (refused_at (number_of why) place) no_flows
  unfolding setup_table setup_answer
  gives_bad o e why place is = record { answers = rw (o, e, ← is); makes = rw (o, e, ← is, number_some why) }

  pub gives_table : Over false → Counted xs false → fine ≡ flows_answer 0 xs → Gives xs terms fine (table_for xs terms)
  unfolding setup_table setup_answer
  gives_table o e is = record { answers = rw (o, e, ← is); makes = rw (o, e, ← is) }

-- more than sixteen are refused by 5, however many, where the overhead is not refused before
pub too_many : (xs : List FlowRecord) (terms : Terms) → Over xs terms false → most_flows < length xs →
    Gives xs terms (refused_at 5 0) no_flows
too_many xs terms o more =
    gives_count xs terms o (or_inr (eqb (length xs) 0) (ltb most_flows (length xs)) (lt-ltb most_flows (length xs) more))

-- the test of a count
pub count_out : (c : ℕ) → (c ≡ 0) ⊎ ((c ≡ 0 → ⊥) × (most_flows < c)) → (eqb c 0 || ltb most_flows c) ≡ true
count_out c = ⊎_elim (λ zero. rw zero) (λ more. or_inr (eqb c 0) (ltb most_flows c) (lt-ltb most_flows c more.1))

pub count_in : (c : ℕ) → (c ≡ 0 → ⊥) → c ≤ most_flows → (eqb c 0 || ltb most_flows c) ≡ false
count_in c some few = rw (ne_eqb c 0 some, le-ltb most_flows c few)

-- the count that the code tests is the list's, of a list of seventeen
pub counted : (rs : List FlowRecord) (c : ℕ) (b : Bool) → length rs ≡ 17 → (eqb c 0 || ltb most_flows c) ≡ b → Counted (take c rs) b
counted rs c b long e = ⊎_elim
    (λ more. over (length-take c rs) more)
    (λ few. rw (length-take-le c rs (omega arith)) e)
    (below? most_flows c)
  where
    over : {k : ℕ} → length (take c rs) ≡ k → most_flows < c → Counted (take c rs) b
    over is more =
        or_inr (eqb (length (take c rs)) 0) (ltb most_flows (length (take c rs)))
        (lt-ltb most_flows (length (take c rs)) (omega (arith, length-take c rs)))
        ∙ sym (or_inr (eqb c 0) (ltb most_flows c) (lt-ltb most_flows c more)) ∙ e
