-- Bounds on the deficits of a sound line, also with the packet just sent counted back, and the view that is fair by them.
use mathlib.Core.Path.{◌≡◌, refl, sym, ap, ◌∙◌}
use mathlib.Core.Logic.{◌≢◌, ◌⊎◌, inl, inr, ⊎_elim}
use mathlib.Core.Bool.{Bool, true, false, cond, ◌&&◌, false≢true}
use Prim.Native.Nat.{ℕ, ◌+◌, ◌*◌, ◌-◌, ◌≤◌, ◌<◌}
use native.Mathlib.Nat.{le_of_lt, mul-le-mul_left}
use native.Mathlib.Omega.{arith}
use borrow.Author.Tests.{ne_eqb, eq-eqb}
use lib.Dec.{eqb}
use lib.ListN.{length}
use lib.Seq.{get_or-set_same, get_or-set_other}
use Rattle.drr.specs.declared.Table.{Table}
use Rattle.drr.specs.State.{Line, quantum_of, maximum_charge, deficit_of, waiting_of, oldest_charge}
use Rattle.drr.specs.Sound.{visited}
use Rattle.drr.specs.Facts.{Sound}
use Rattle.drr.specs.Pick.{sent}
use Rattle.drr.proofs.Bools.{same?}
use Rattle.drr.proofs.Stretches.{View, Fair}
use Rattle.drr.proofs.Ranks.{only, only_same, only_other, only_zero, only_le, less, less_yes, less_no, less_top}
use Rattle.drr.proofs.Order.{Order}

abbrev pub bit : Bool → ℕ
bit b = cond b 1 0

-- the deficits of l with r counted to them: each below its maximum charge, the open flow's below a quantum more
abbrev pub Bounded : Table → Line → (ℕ → ℕ) → Type 0
Bounded T l r =
    (j : ℕ) → j < T.n → deficit_of l j + r j < maximum_charge T j + quantum_of T j * only l.place (bit l.opened) j

module _ (T : Table) (l : Line) (ok : Sound T l) (j : ℕ) (in_table : j < T.n) where
  low : j < 16
  low = omega (arith, ok.flows_few)

  pub charge_within : 0 < waiting_of l j → oldest_charge T l j ≤ maximum_charge T j
  charge_within some = omega (arith, ((ok.flows j low).waiting 0 (omega arith) some).1)

  -- a flow without an open visit
  pub closed_below : visited l j ≡ false → deficit_of l j < maximum_charge T j
  closed_below off =
      let u = ok.flows j low in
      ⊎_elim
      (λ e. omega (arith, (u.used in_table).maximum_least, (u.credit in_table).empty_zero off e))
      (λ ne. let some : 0 < waiting_of l j = omega (arith, ne) in
      omega (arith, charge_within some, (u.credit in_table).waiting_below off some))
      (same? (waiting_of l j) 0)

pub not_open : (l : Line) (j : ℕ) → l.opened ≡ false → visited l j ≡ false
not_open l j off = ap (λ (b : Bool). b && eqb l.place j) off

pub not_place : (l : Line) (j : ℕ) → j ≢ l.place → visited l j ≡ false
not_place l j ne = go l.opened
  where
    go : (b : Bool) → (b && eqb l.place j) ≡ false
    go true = ne_eqb l.place j (λ e. ne (sym e))
    go false = refl

pub sound_bounded : (T : Table) (l : Line) → Sound T l → Bounded T l (λ j. 0)
sound_bounded T l ok j in_table = ⊎_elim
    (λ e. rw e (at_place (rw e at in_table) l.opened refl))
    (λ ne. omega (arith, closed_below T l ok j in_table (not_place l j ne)))
    (same? j l.place)
  where
    at_place : l.place < T.n → (b : Bool) → l.opened ≡ b →
        deficit_of l l.place + 0 < maximum_charge T l.place + quantum_of T l.place * only l.place (bit b) l.place
    at_place at true on =
        rw (only_same l.place 1)
        (omega (
          arith,
          ((ok.flows l.place (omega (arith, ok.flows_few))).credit at).visited_below
              (rw (on, eq-eqb l.place l.place refl)),
        ))
    at_place at false off = omega (arith, closed_below T l ok l.place at (not_open l l.place off))

-- a packet sent in the open visit, and counted back
pub sent_bounded : (T : Table) (l : Line) → l.opened ≡ true → l.place < length l.deficits →
    oldest_charge T l l.place ≤ deficit_of l l.place →
    deficit_of l l.place < maximum_charge T l.place + quantum_of T l.place →
    ((j : ℕ) → j < T.n → j ≢ l.place → deficit_of l j < maximum_charge T j) →
    Bounded T (sent T l l.place) (only l.place (oldest_charge T l l.place))
sent_bounded T l on inside enough own others j in_table =
    ⊎_elim
    (λ e. rw e (rw (only_same p (oldest_charge T l p), get_or-set_same l.deficits p y 0 inside) (at_place l.opened on)))
    (λ ne. rw (only_other p (oldest_charge T l p) j ne, get_or-set_other l.deficits p j y 0 ne) (omega (arith, others j in_table ne)))
    (same? j p)
  where
    p : ℕ
    p = l.place

    y : ℕ
    y = deficit_of l p - oldest_charge T l p

    at_place : (b : Bool) → b ≡ true → y + oldest_charge T l p < maximum_charge T p + quantum_of T p * only p (bit b) p
    at_place true e = rw (only_same p 1) (omega (arith, own, enough))
    at_place false e = absurd (false≢true e)

-- ---- what flow i sees of a line whose deficits are d is fair, with one taken off each maximum charge: charges are whole bytes
module _ (T : Table) {Fit : Line → Type 0} {rank : Line → ℕ → ℕ} (O : Order T Fit rank) (i : ℕ) (i<n : i < T.n) where
  abbrev pub mid : Line → (ℕ → ℕ) → View
  mid l d = record { deficit = d; behind = λ j. less (rank l i) (rank l j) }

  pub fair : (l : Line) → Fit l → (d : ℕ → ℕ) →
      ((j : ℕ) → j < T.n → d j < maximum_charge T j + quantum_of T j * only l.place (bit l.opened) j) →
      Fair T.n (quantum_of T) (λ j. maximum_charge T j - 1) i (mid l d)
  fair l fit d bounded = by (same? i l.place) l.opened refl
    where
      top : l.opened ≡ true → (j : ℕ) → j < T.n → j ≢ l.place → rank l j < rank l l.place
      top = O.open_last l fit

      bound : (b : Bool) → l.opened ≡ b → (j : ℕ) → j < T.n → d j < maximum_charge T j + quantum_of T j * only l.place (bit b) j
      bound b e j k = rw e at (bounded j k)

      others : (b : Bool) → l.opened ≡ b → (j : ℕ) → j < T.n → j ≢ i →
          d j ≤ maximum_charge T j - 1 + quantum_of T j * less (rank l i) (rank l j)
      others b e j k ne = ⊎_elim
          (λ t. at_place b e t)
          (λ t. omega (arith, rw (only_other l.place (bit b) j t) at (bound b e j k)))
          (same? j l.place)
        where
          at_place : (b : Bool) → l.opened ≡ b → j ≡ l.place → d j ≤ maximum_charge T j - 1 + quantum_of T j * less (rank l i) (rank l j)
          at_place true e t = rw (t, less_yes (top e i i<n (λ s. ne (t ∙ sym s)))) (omega (arith, rw (t, only_same) at (bound true e j k)))
          at_place false e t = omega (arith, rw only_zero at (bound false e j k))

      by : (i ≡ l.place) ⊎ (i ≡ l.place → ⊥) → (b : Bool) → l.opened ≡ b →
          Fair T.n (quantum_of T) (λ j. maximum_charge T j - 1) i (mid l d)
      by (inl t) true e =
          record {
            closed = 0;
            others = others true e;
            own = omega (arith, bound true e i i<n, mul-le-mul_left (quantum_of T i) (only_le l.place 1 i));
            alone = λ j k ne. rw t (omega (arith, less_no (le_of_lt (top e j k (λ s. ne (s ∙ sym t))))));
          }
      by (inl t) false e =
          record {
            closed = 1;
            others = others false e;
            own = omega (arith, rw only_zero at (bound false e i i<n));
            alone = λ j k ne. less_top _ _;
          }
      by (inr t) b e =
          record {
            closed = 1;
            others = others b e;
            own = omega (arith, rw (only_other l.place (bit b) i t) at (bound b e i i<n));
            alone = λ j k ne. less_top _ _;
          }
