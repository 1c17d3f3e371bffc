-- With an overhead of 0 setup, soundness, the pick and the figures are document 01's without one.
use mathlib.Core.Path.{◌≡◌, refl, ap, ◌∙◌}
use mathlib.Core.Bool.{Bool, true, false, not, ◌&&◌, ◌||◌, and-true}
use mathlib.Core.List.{List}
use Prim.Native.Nat.{ℕ, zero, suc, ◌+◌, ◌*◌, ◌-◌}
use native.Mathlib.Omega.{arith}
use borrow.Author.Tests.{le-leb, eq-eqb}
use lib.Dec.{ltb, leb, eqb}
use Rattle.std.specs.Prelude.{Option, Some, None}
use Rattle.drr.specs.declared.FlowRecord.{FlowRecord}
use Rattle.drr.specs.declared.Table.{Table}
use Rattle.drr.specs.State.{Line, quantum_of, maximum_of, maximum_charge, deficit_of, waiting_of, sum_of, row_of, oldest, oldest_charge}
use Rattle.drr.specs.State.{with_deficit, with_row, shifted_of}
use Rattle.drr.specs.Limits.{most_flows, most_overhead, most_waiting}
use Rattle.drr.specs.Sound.{all, headb, numbersb, visited, cellsb, sumb, flowb, soundb}
use Rattle.drr.specs.Answers.{sent_as, Outcome, outcome}
use Rattle.drr.specs.Pick.{next, open_at, closed, emptied}
use Rattle.drr.specs.Computed.{sending, serve, turn, look_for, enough, carry_on, readyb, pick_at, pick_of}
use Rattle.drr.specs.Setup.{terms_of, setup_answer}
use Rattle.drr.specs.Figures.{total, all_quanta, all_charges, lag, least_from, owed, wait}
use Rattle.drr.specs.Before as before

pub setup_same : (xs : List FlowRecord) → setup_answer xs (terms_of 0) ≡ before.setup_answer xs
unfolding setup_answer before.setup_answer
setup_same xs = refl

module _ (T : Table) (none : T.overhead ≡ 0) where
  charged : (l : Line) (f : ℕ) → oldest_charge T l f ≡ oldest l f
  charged l f = omega (arith, none)

  -- ---- soundness
  flow_same : (l : Line) (f : ℕ) → flowb T l f ≡ before.flowb T l f
  unfolding flowb before.flowb
  flow_same l f =
      ap (λ (cost : ℕ). numbersb (ltb f T.n) (visited l f) (quantum_of T f) (maximum_of T f) (deficit_of l f) (waiting_of l f) cost
      && all most_waiting (cellsb T l f) && sumb l f) (charged l f)

  -- the overhead's tests are passed
  head_same : (l : Line) → headb T l ≡ before.headb T.n l.place l.opened
  head_same l =
      rw (le-leb T.overhead most_overhead (omega (arith, none)), eq-eqb T.overhead 0 none) (go (leb T.n most_flows) (eqb T.n 0))
    where
      go : (a b : Bool) → (a && true) && (ltb l.place T.n || (b && true && eqb l.place 0 && not l.opened))
          ≡ (a && (ltb l.place T.n || (b && eqb l.place 0 && not l.opened)))
      go a b = ap (λ (x : Bool). x && (ltb l.place T.n || (b && true && eqb l.place 0 && not l.opened))) (and-true a)
          ∙ ap (λ (x : Bool). a && (ltb l.place T.n || (x && eqb l.place 0 && not l.opened))) (and-true b)

  pub sound_same : (l : Line) → soundb T l ≡ before.soundb T l
  unfolding soundb before.soundb
  sound_same l =
      λ i. head_same l i && all most_flows (λ f. flow_same l f i)

  -- ---- the pick
  -- the oldest packet of flow f sent at this cost
  abbrev sent_at : Line → ℕ → ℕ → Line
  sent_at l f cost =
      with_row (with_deficit l f (deficit_of l f - cost)) f (waiting_of l f - 1) (sum_of l f - oldest l f) (shifted_of (row_of l f))

  sending_same : (l : Line) (f v : ℕ) → sending T l f v ≡ before.sending l f v
  sending_same l f v =
      ap (λ (cost : ℕ). outcome (sent_as f (oldest l f) (deficit_of (sent_at l f cost) f) v) (sent_at l f cost)) (charged l f)

  serve_same : (b : Bool) (v : ℕ) (l : Line) (f : ℕ) {g h : Line → Outcome} → g ≡ h → serve T b v l f g ≡ before.serve b v l f h
  serve_same true v l f e = sending_same l f v
  serve_same false v l f e = ap (λ (g : Line → Outcome). g (closed l)) e

  turn_same : (v : ℕ) (l : Line) (o : Option ℕ) {g h : Line → Outcome} → g ≡ h → turn T v l o g ≡ before.turn T v l o h
  turn_same v l None e = refl
  turn_same v l (Some f) {h = h} e =
      serve_same (leb (oldest_charge T l f) (deficit_of (open_at T l f) f)) (v + 1) (open_at T l f) f e
      ∙ ap (λ (cost : ℕ). before.serve (leb cost (deficit_of (open_at T l f) f)) (v + 1) (open_at T l f) f h) (charged l f)

  look_same : (k v : ℕ) (l : Line) → look_for T k v l ≡ before.look_for T k v l
  unfolding look_for before.look_for
  look_same zero v l = refl
  look_same (suc k) v l = turn_same v l (next T l) (λ i m. look_same k (v + 1) m i)

  carry_same : (b : Bool) (l : Line) → carry_on T b l ≡ before.carry_on T b l
  carry_same true l = sending_same l l.place 0
  carry_same false l = look_same enough 0 (closed (emptied l))

  at_same : (b : Bool) (l : Line) → pick_at T b l ≡ before.pick_at T b l
  at_same true l =
      carry_same (readyb T l l.place) l
      ∙ ap (λ (cost : ℕ). before.carry_on T (ltb 0 (waiting_of l l.place) && leb cost (deficit_of l l.place)) l) (charged l l.place)
  at_same false l = look_same enough 0 l

  pub pick_same : (l : Line) → pick_of T l ≡ before.pick_of T l
  pick_same l = at_same l.opened l

  -- ---- the figures
  raised : (f : ℕ) → maximum_charge T f ≡ maximum_of T f
  raised f = omega (arith, none)

  pub lag_same : (i : ℕ) → lag T i ≡ before.lag T i
  lag_same i =
      let all : all_charges T ≡ before.all_maxima T = ap (total T.n) (λ j f. raised f j) in
      λ j. quantum_of T i * (all j - raised i j) + (all_quanta T - quantum_of T i) * (quantum_of T i + raised i j)

  pub owed_same : (i S : ℕ) → owed T i S ≡ before.owed T i S
  unfolding owed before.owed
  owed_same i S =
      ap (λ (C : ℕ). least_from (λ x. leb (quantum_of T i * S - C) (all_quanta T * x)) 0 (quantum_of T i * S)) (lag_same i)

  pub wait_same : (i : ℕ) → wait T i ≡ before.wait T i
  unfolding wait before.wait
  wait_same i = λ j. least_from (λ S. leb 1 (owed_same i S j)) 0 (lag_same i j + 1)
