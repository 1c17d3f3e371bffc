-- The loop of visits and step 1, as the code takes them.
use mathlib.Core.Path.{◌≡◌, refl, sym, ap, subst, ◌∙◌}
use mathlib.Core.Bool.{Bool, true, false}
use Prim.Native.Nat.{ℕ, ◌+◌, ◌-◌, ◌≤◌, ◌<◌}
use native.Mathlib.Omega.{arith}
use borrow.Author.Tests.{le-leb, lt-leb, lt-ltb, le-ltb}
use lib.Dec.{leb}
use lib.ListN.{set}
use lib.Seq.{set-get_or}
use Rattle.std.specs.Prelude.{Option, Some, None}
use Rattle.drr.specs.declared.Table.{Table}
use Rattle.drr.specs.Limits.{most_flows, most_charges}
use Rattle.drr.specs.State.{Line, quantum_of, deficit_of, waiting_of, oldest_charge, with_deficit, with_visit}
use Rattle.drr.specs.Facts.{Sound}
use Rattle.drr.specs.Answers.{idle, outcome}
use Rattle.drr.specs.Pick.{next, open_at, closed, emptied, Ready}
use Rattle.drr.specs.Computed.{sending, serve, turn, look, carry_on, readyb, pick_at, pick_of}
use Rattle.engine.specs.Needs.{Bookable, Sendable}
use Rattle.drr.proofs.Steps.{low, found_in, grown, visit_passes, place_in, on_ends, oldest_held, sum_most}
use Rattle.drr.proofs.Sums.{over_flows}
use Rattle.drr.proofs.Visits.{deficit_most, sum_low, grows}
use Rattle.drr.proofs.One.{look_unfolds}

-- the loop of visits, from the line s to the line t between two visits, with v visits opened
pub record Along (T : Table) (s t : Line) (v : ℕ) : Type 0 where
  pub sound : Sound T t
  pub count : v ≤ over_flows t.deficits
  pub same : look T 0 s ≡ look T v t

abbrev pub shut : Line → ℕ → Line
shut l place = with_visit l place false

pub along_first : {T : Table} {s : Line} → Sound T s → s.opened ≡ false → Along T s (shut s s.place) 0
along_first {T} {s} ok off =
    subst (λ (l : Line). Along T s l 0) (λ i. with_visit s s.place (off i)) (record { sound = ok; count = omega arith; same = refl })

module _ (T : Table) (s l : Line) (place v : ℕ) (h : Along T s (shut l place) v) where
  abbrev t : Line
  t = shut l place

  pub along_idles : next T t ≡ None → outcome idle t ≡ look T 0 s
  along_idles e = sym (h.same ∙ look_unfolds T v t h.sound refl ∙ ap (λ (o : Option ℕ). turn T v t o (look T (v + 1))) e)

  pub room : v ≤ most_charges
  room = omega (arith, h.count, sum_low T t h.sound refl)

  module _ (f : ℕ) (at : next T t ≡ Some f) where
    flow : (f < T.n) × (0 < waiting_of t f)
    flow = found_in T t f at

    flow_low : f < most_flows
    flow_low = low T t h.sound f flow.0

    pub fits : deficit_of t f + quantum_of T f < 1000000
    fits = omega (arith, ((h.sound.flows f flow_low).used flow.0).quantum_most, deficit_most T t h.sound refl f flow_low)

    opened_is : deficit_of (open_at T t f) f ≡ deficit_of t f + quantum_of T f
    opened_is = grown T t h.sound f at

    pub sendable : oldest_charge T t f ≤ deficit_of t f + quantum_of T f → Sendable T (with_deficit l f (deficit_of t f + quantum_of T f)) f
    sendable enough = record {
      overhead = h.sound.overhead_in_range;
      flow = flow_low;
      waits = flow.1;
      enough = rw opened_is enough;
      held = oldest_held T t h.sound f flow.0 flow.1;
    }

    opens : look T v t ≡ serve T (leb (oldest_charge T t f) (deficit_of (open_at T t f) f)) (v + 1) (open_at T t f) f (look T (v + 1))
    opens = look_unfolds T v t h.sound refl ∙ ap (λ (o : Option ℕ). turn T v t o (look T (v + 1))) at

    pub along_sends : oldest_charge T t f ≤ deficit_of t f + quantum_of T f → sending T (open_at T t f) f (v + 1) ≡ look T 0 s
    along_sends enough =
        let reaches = le-leb (oldest_charge T t f) (deficit_of (open_at T t f) f) (rw opened_is enough) in
        sym (h.same ∙ opens ∙ ap (λ (b : Bool). serve T b (v + 1) (open_at T t f) f (look T (v + 1))) reaches)

    module _ (short : deficit_of t f + quantum_of T f < oldest_charge T t f) where
      short' : deficit_of (open_at T t f) f < oldest_charge T t f
      short' = rw opened_is short

      pub along_on : Along T s (closed (open_at T t f)) (v + 1)
      along_on = record {
        sound = visit_passes T t h.sound f at refl short';
        count = omega (arith, grows T t h.sound f at, h.count);
        same = h.same ∙ opens ∙ ap (λ (b : Bool). serve T b (v + 1) (open_at T t f) f (look T (v + 1))) (lt-leb _ _ short');
      }

      pub along_falls :
          most_charges - over_flows (set t.deficits f (deficit_of t f + quantum_of T f)) < most_charges - over_flows t.deficits
      along_falls = omega (arith, grows T t h.sound f at, sum_low T (closed (open_at T t f)) along_on.sound refl)

-- ---- step 1, where it sends nothing: the visit is closed, if there was one, and m is what steps 2 and 3 begin with
pub record Ends (T : Table) (l m : Line) : Type 0 where
  pub sound : Sound T m
  pub same : look T 0 m ≡ pick_of T l

module _ (T : Table) (l : Line) (ok : Sound T l) where
  pub starts_shut : l.opened ≡ false → Ends T l l
  starts_shut off = record { sound = ok; same = sym (ap (λ (b : Bool). pick_at T b l) off) }

  module _ (on : l.opened ≡ true) where
    abbrev p : ℕ
    p = l.place

    stops : readyb T l p ≡ false → (Ready T l p → ⊥) → Ends T l (closed (emptied l))
    stops nay stuck = record {
      sound = on_ends T l ok on stuck;
      same = sym (ap (λ (b : Bool). pick_at T b l) on ∙ ap (λ (b : Bool). carry_on T b l) nay);
    }

    pub stops_short : 0 < waiting_of l p → deficit_of l p < oldest_charge T l p → Ends T l (closed l)
    stops_short w short =
        let none = stops (rw (lt-ltb 0 (waiting_of l p) w, lt-leb (oldest_charge T l p) (deficit_of l p) short)) (λ r. omega (arith, r.1)) in
        rw (lt-ltb 0 (waiting_of l p) w, set-get_or l.deficits p 0) at none

    pub stops_empty : waiting_of l p ≡ 0 → Ends T l (closed (with_deficit l p 0))
    stops_empty w =
        let none = stops (rw (le-ltb 0 (waiting_of l p) (omega (arith, w)))) (λ r. omega (arith, w, r.0)) in
        rw (le-ltb 0 (waiting_of l p) (omega (arith, w))) at none

    module _ (w : 0 < waiting_of l p) (enough : oldest_charge T l p ≤ deficit_of l p) where
      pub ready : Sendable T l p
      ready = record {
        overhead = ok.overhead_in_range;
        flow = low T l ok p (place_in T l ok on);
        waits = w;
        enough = enough;
        held = oldest_held T l ok p (place_in T l ok on) w;
      }

      able : readyb T l p ≡ true
      able = rw (lt-ltb 0 (waiting_of l p) w, le-leb (oldest_charge T l p) (deficit_of l p) enough)

      pub goes : sending T (with_visit l p true) p 0 ≡ pick_of T l
      goes =
          ap (λ (k : Line). sending T k p 0) (λ i. with_visit l p (sym on i))
          ∙ sym (ap (λ (b : Bool). pick_at T b l) on ∙ ap (λ (b : Bool). carry_on T b l) able)

-- ---- what a booking asks
pub sound_bookable : {T : Table} {l : Line} → Sound T l → Bookable T l
sound_bookable {T} {l} ok = record {
  flows_few = ok.flows_few;
  maxima_most = λ f q. ((ok.flows f (omega (arith, ok.flows_few))).used q).maximum_most;
  sums_most = λ f q. sum_most T l ok f q;
}
