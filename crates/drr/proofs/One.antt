-- A pick has one answer and one line after it; on a sound line it has one, and the function gives it.
use mathlib.Core.Path.{◌≡◌, refl, subst, ap}
use mathlib.Core.Bool.{Bool, true, false, ◌&&◌}
use Prim.Native.Nat.{ℕ, zero, suc, ◌+◌, ◌-◌, ◌≤◌, ◌<◌}
use native.Mathlib.Omega.{arith}
use borrow.Author.Tests.{leb-true, leb-false, ltb-true, ltb-false}
use lib.Dec.{ltb, leb}
use Rattle.std.specs.Prelude.{Option, Some, None}
use Rattle.drr.specs.declared.Table.{Table}
use Rattle.drr.specs.Limits.{most_charges}
use Rattle.drr.specs.State.{Line, deficit_of, waiting_of, oldest, oldest_charge}
use Rattle.drr.specs.Facts.{Sound}
use Rattle.drr.specs.Answers.{Answer, sent_as, Outcome, outcome}
use Rattle.drr.specs.Pick.{next, open_at, closed, emptied, sent, Ready, Looks, Picks}
use Rattle.drr.specs.Pick.Looks.{idles, sends, passes}
use Rattle.drr.specs.Pick.Picks.{goes_on, closes, starts}
use Rattle.drr.specs.Computed.{serve, turn, look_for, enough, look, carry_on, pick_at, pick_of}
use Rattle.drr.proofs.Bools.{apart}
use Rattle.drr.proofs.Steps.{visit_passes, on_ends}
use Rattle.drr.proofs.Sums.{over_flows}
use Rattle.drr.proofs.Visits.{sum_low, grows}

same_flow : (o : Option ℕ) (f g : ℕ) → o ≡ Some f → o ≡ Some g → f ≡ g
same_flow o f g p q = cc

never : (o : Option ℕ) (f : ℕ) → o ≡ Some f → o ≡ None → ⊥
never o f p q = let z : ◌≡◌ {A = ℕ} 0 1 = cc in omega arith

-- one flow cannot be sent from and be passed by
never_both : (T : Table) (l : Line) (f g : ℕ) → next T l ≡ Some f → next T l ≡ Some g → oldest_charge T l f ≤ deficit_of (open_at T l f) f →
    deficit_of (open_at T l g) g < oldest_charge T l g → ⊥
never_both T l f g p q enough short =
    let z : deficit_of (open_at T l f) f < oldest_charge T l f = subst (λ (x : ℕ). deficit_of (open_at T l x) x < oldest_charge T l x)
    (same_flow (next T l) g f q p) short in
    omega arith

pub looks_one : {T : Table} {v : ℕ} {l : Line} {a : Answer} {t : Line} {b : Answer} {u : Line} → Looks T v l a t → Looks T v l b u →
    (a ≡ b) × (t ≡ u)
looks_one {T} (idles p) (idles q) = (refl, refl)
looks_one {T} (idles p) (sends q r) = absurd (never _ _ q p)
looks_one {T} (idles p) (passes q r k) = absurd (never _ _ q p)
looks_one {T} (sends p e) (idles q) = absurd (never _ _ p q)
looks_one {T} (sends {v = v} {l = l} {f = f} p e) (sends {f = g} q r) =
    let same = same_flow (next T l) f g p q in
    let there : ℕ → Line = λ x. sent T (open_at T l x) x in
    (ap (λ (x : ℕ). sent_as x (oldest l x) (deficit_of (there x) x) (v + 1)) same, ap there same)
looks_one {T} (sends {l = l} {f = f} p e) (passes {f = g} q r k) = absurd (never_both T l f g p q e r)
looks_one {T} (passes p e k) (idles q) = absurd (never _ _ p q)
looks_one {T} (passes {l = l} {f = f} p e k) (sends {f = g} q r) = absurd (never_both T l g f q p r e)
looks_one {T} (passes {v = v} {l = l} {f = f} p e j) (passes {f = g} {a = b} {t = u} q r k) =
    looks_one j (subst (λ (x : ℕ). Looks T (v + 1) (closed (open_at T l x)) b u) (same_flow (next T l) g f q p) k)

pub picks_one : {T : Table} {l : Line} {a : Answer} {t : Line} {b : Answer} {u : Line} → Picks T l a t → Picks T l b u → (a ≡ b) × (t ≡ u)
picks_one (goes_on p r) (goes_on q w) = (refl, refl)
picks_one (goes_on p r) (closes q w k) = absurd (w r)
picks_one (goes_on p r) (starts q k) = absurd (apart p q)
picks_one (closes p r j) (goes_on q w) = absurd (r w)
picks_one (closes p r j) (closes q w k) = looks_one j k
picks_one (closes p r j) (starts q k) = absurd (apart p q)
picks_one (starts p j) (goes_on q w) = absurd (apart q p)
picks_one (starts p j) (closes q w k) = absurd (apart q p)
picks_one (starts p j) (starts q k) = looks_one j k

-- ---- the function is the relation's one answer
abbrev Is : Table → ℕ → Line → Outcome → Type 0
Is T v l r = Looks T v l r.answer r.line

-- one turn, whatever a return to step 2 gives, as long as that is right with one visit more and a smaller measure
module _ (T : Table) (v : ℕ) (l : Line) (ok : Sound T l) (off : l.opened ≡ false) (goto2 : Line → Outcome)
    (on : (t : Line) → Sound T t → t.opened ≡ false → most_charges - over_flows t.deficits < most_charges - over_flows l.deficits →
    Is T (v + 1) t (goto2 t)) where
  served_is : (f : ℕ) → next T l ≡ Some f → (b : Bool) → leb (oldest_charge T l f) (deficit_of (open_at T l f) f) ≡ b →
      Is T v l (serve T b (v + 1) (open_at T l f) f goto2)
  served_is f e true q = sends e (leb-true _ _ q)
  served_is f e false q =
      let short = leb-false (oldest_charge T l f) (deficit_of (open_at T l f) f) q in
      let ok' = visit_passes T l ok f e off short in
      passes e short (on (closed (open_at T l f)) ok' refl (omega (arith, grows T l ok f e, sum_low T (closed (open_at T l f)) ok' refl)))

  turned_is : (o : Option ℕ) → next T l ≡ o → Is T v l (turn T v l o goto2)
  turned_is None e = idles e
  turned_is (Some f) e = served_is f e (leb (oldest_charge T l f) (deficit_of (open_at T l f) f)) refl

-- the computation never runs short: its count is above the measure
looks_for : (T : Table) (k v : ℕ) (l : Line) → Sound T l → l.opened ≡ false → most_charges - over_flows l.deficits < k →
    Is T v l (look_for T k v l)
unfolding look_for
looks_for T zero v l ok off h = absurd (omega arith)
looks_for T (suc k) v l ok off h =
    turned_is T v l ok off (look_for T k (v + 1)) (λ t ok' off' less. looks_for T k (v + 1) t ok' off' (omega arith)) (next T l) refl

pub look_is : (T : Table) (v : ℕ) (l : Line) → Sound T l → l.opened ≡ false → Is T v l (look T v l)
look_is T v l ok off = looks_for T enough v l ok off (omega arith)

-- the function without its count
pub look_unfolds : (T : Table) (v : ℕ) (l : Line) → Sound T l → l.opened ≡ false → look T v l ≡ turn T v l (next T l) (look T (v + 1))
look_unfolds T v l ok off =
    let z = looks_one (look_is T v l ok off)
    (turned_is T v l ok off (look T (v + 1)) (λ t ok' off' less. look_is T (v + 1) t ok' off') (next T l) refl) in
    λ i. record { answer = z.0 i; line = z.1 i }

-- on a sound line there is an answer, the function's ..
pub pick_is : (T : Table) (l : Line) → Sound T l → Picks T l (pick_of T l).answer (pick_of T l).line
pick_is T l ok = at_open l.opened refl
  where
    at_open : (b : Bool) → l.opened ≡ b → Picks T l (pick_at T b l).answer (pick_at T b l).line
    at_open true on = on_test (ltb 0 (waiting_of l l.place)) refl (leb (oldest_charge T l l.place) (deficit_of l l.place)) refl
      where
        ends : (Ready T l l.place → ⊥) → Picks T l (carry_on T false l).answer (carry_on T false l).line
        ends stuck = closes on stuck (look_is T 0 (closed (emptied l)) (on_ends T l ok on stuck) refl)

        on_test : (w : Bool) → ltb 0 (waiting_of l l.place) ≡ w → (e : Bool) →
            leb (oldest_charge T l l.place) (deficit_of l l.place) ≡ e →
            Picks T l (carry_on T (w && e) l).answer (carry_on T (w && e) l).line
        on_test true p true q = goes_on on (ltb-true _ _ p, leb-true _ _ q)
        on_test true p false q = ends (λ r. omega (arith, r.1, leb-false (oldest_charge T l l.place) (deficit_of l l.place) q))
        on_test false p e q = ends (λ r. omega (arith, r.0, ltb-false 0 (waiting_of l l.place) p))
    at_open false off = starts off (look_is T 0 l ok off)

-- .. and no other
pub pick_only : (T : Table) (l : Line) → Sound T l → (a : Answer) (t : Line) → Picks T l a t → outcome a t ≡ pick_of T l
pick_only T l ok a t p = let z = picks_one p (pick_is T l ok) in λ i. record { answer = z.0 i; line = z.1 i }
