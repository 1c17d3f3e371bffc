-- Each step of a pick, and an accepted arrival, leaves a sound line.
use mathlib.Core.Path.{◌≡◌, refl, sym, ap, ◌∙◌}
use mathlib.Core.Bool.{Bool, true, false, ◌&&◌, true≢false, false≢true}
use mathlib.Core.Logic.{inl, ⊎_elim}
use mathlib.Core.List.{List, []}
use Prim.Native.Nat.{ℕ, zero, suc, ◌+◌, ◌-◌, ◌≤◌, ◌<◌}
use native.Mathlib.Omega.{arith}
use borrow.Author.Tests.{ne_eqb, eq-eqb, lt-ltb, le-ltb}
use lib.Dec.{eqb}
use lib.ListN.{length, get_or, set, length-set, get_or-eq_default}
use lib.Seq.{get_or-set_same, get_or-set_other, set-set}
use Rattle.std.specs.Prelude.{Some}
use Rattle.drr.specs.Limits.{most_maximum, most_waiting, most_bytes}
use Rattle.drr.specs.declared.Table.{Table}
use Rattle.drr.specs.State.{Line, quantum_of, maximum_of, deficit_of, waiting_of, row_of, charge, oldest_charge, with_deficit, with_row}
use Rattle.drr.specs.State.{sum_of, oldest, with_visit, shifted_of}
use Rattle.drr.specs.Sound.{visited}
use Rattle.drr.specs.Facts.{Credit, FlowFacts, Flow, Shaped, Sound}
use Rattle.drr.specs.Arrival.{put}
use Rattle.drr.specs.Pick.{first_of, next, open_at, closed, emptied, sent, Ready}
use Rattle.drr.proofs.Bools.{apart, same?, below?}
use Rattle.drr.proofs.Lengths.{shift_at, shift_long, bytes_put, bytes_taken, bytes_most}
use Rattle.drr.proofs.Search.{found_waits}

-- ---- one flow
module _ {T : Table} {f : ℕ} {v : Bool} {d c w : ℕ} {row : List ℕ} (u : FlowFacts T f v d c w row) (in_table : f < T.n) where
  -- another deficit, and a visit open or not
  recredit : (v' : Bool) (d' : ℕ) → Credit v' d' (quantum_of T f) c (charge T (get_or row 0 0)) → FlowFacts T f v' d' c w row
  recredit v' d' credit =
      record {
        used = u.used;
        credit = λ _. credit;
        unused = λ y. absurd (omega arith);
        waiting = u.waiting;
        rest = u.rest;
        true_sum = u.true_sum;
      }

  -- its oldest packet sent in a visit
  sent_flow : length row ≡ 32 → 0 < c → (d' : ℕ) → d' < quantum_of T f →
      FlowFacts T f true d' (c - 1) (w - get_or row 0 0) (shifted_of row)
  sent_flow long some d' small =
      let z = u.used in_table in
      record {
        used = λ _. record {
          quantum_least = z.quantum_least;
          quantum_most = z.quantum_most;
          maximum_least = z.maximum_least;
          maximum_most = z.maximum_most;
          count_most = omega (arith, z.count_most);
        };
        credit = λ _. record {
          visited_below = λ _. small;
          empty_zero = λ p. absurd (true≢false p);
          waiting_below = λ p. absurd
              (true≢false p);
        };
        unused = λ y. absurd (omega arith);
        waiting = λ k x y. rw (shift_at row k) (u.waiting (k + 1) (omega (arith, z.count_most)) (omega arith));
        rest = λ k x y. shift_at row k ∙ ⊎_elim
            (λ lo. u.rest (k + 1) lo (omega arith))
            (λ hi. get_or-eq_default row 0 {n = k + 1} (omega arith))
            (below? (k + 1) 32);
        true_sum = omega (arith, u.true_sum, bytes_taken row c some (omega (arith, z.count_most)));
      }

  -- one length more at the end of its row
  put_flow : length row ≡ 32 → c < 32 → (len : ℕ) → 1 ≤ len → len ≤ maximum_of T f →
      FlowFacts T f v d (c + 1) (w + len) (set row c len)
  put_flow long room len least most =
      let z = u.used in_table in
      let k₀ = u.credit in_table in
      record {
        used = λ _. record {
          quantum_least = z.quantum_least;
          quantum_most = z.quantum_most;
          maximum_least = z.maximum_least;
          maximum_most = z.maximum_most;
          count_most = omega arith;
        };
        credit = λ _. record {
          visited_below = k₀.visited_below;
          empty_zero = λ p z. absurd (omega arith);
          waiting_below = λ p z. ⊎_elim
              (λ e. let x : d ≡ 0 = k₀.empty_zero p (sym e) in
              let y : get_or (set row c len) 0 0 ≡ len = (ap (λ (k : ℕ). get_or (set row c len) k 0) e ∙ here) in omega arith)
              (λ e. let x = k₀.waiting_below p (omega (arith, e)) in omega (arith, there 0 e))
              (same? 0 c);
        };
        unused = λ y. absurd (omega arith);
        waiting = λ k x y. ⊎_elim
            (λ e. let h : get_or (set row c len) k 0 ≡ len = rw e here in omega arith)
            (λ e. let h = u.waiting k x (omega (arith, e)) in omega (arith, there k e))
            (same? k c);
        rest = λ k x y. there k (λ e. omega arith) ∙ u.rest k x (omega arith);
        true_sum = omega (arith, u.true_sum, bytes_put row c len (omega arith));
      }
    where
      here : get_or (set row c len) c 0 ≡ len
      here = get_or-set_same row c len 0 (omega arith)

      there : (k : ℕ) → (k ≡ c → ⊥) → get_or (set row c len) k 0 ≡ get_or row k 0
      there k x = get_or-set_other row c k len 0 x

pub sound_place : {T : Table} {l : Line} → Sound T l → l.place < 16
sound_place ok = ⊎_elim (λ a. omega (arith, ok.flows_few)) (λ b. omega (arith, b.2)) ok.placed

-- ---- a line of which flow p alone is changed: its deficit, its row, or both
module _ (T : Table) (l : Line) (ok : Sound T l) (p : ℕ) (in_table : p < T.n) where
  pub low : p < 16
  low = omega (arith, in_table, ok.flows_few)

  was : Flow T l p
  was = ok.flows p low

  row_counted : waiting_of l p ≤ length (row_of l p)
  row_counted = omega (arith, ok.shape.row_length p low, (was.used in_table).count_most)

  -- the sum has the oldest length, and at most as many bytes as can wait
  pub oldest_held : 0 < waiting_of l p → oldest l p ≤ sum_of l p
  oldest_held some = omega (arith, was.true_sum, bytes_taken (row_of l p) (waiting_of l p) some row_counted)

  pub sum_most : sum_of l p ≤ most_bytes
  sum_most =
      let u = was.used in_table in
      omega (
        arith,
        was.true_sum,
        u.count_most,
        bytes_most (row_of l p) most_maximum (waiting_of l p)
            (λ j k. omega (arith, (was.waiting j (omega (arith, u.count_most)) k).1, u.maximum_most)),
      )

  deficit_here : (d : ℕ) → get_or (set l.deficits p d) p 0 ≡ d
  deficit_here d = get_or-set_same l.deficits p d 0 (omega (arith, low, ok.shape.deficits_length))

  count_here : (c : ℕ) → get_or (set l.counts p c) p 0 ≡ c
  count_here c = get_or-set_same l.counts p c 0 (omega (arith, low, ok.shape.counts_length))

  sum_here : (w : ℕ) → get_or (set l.sums p w) p 0 ≡ w
  sum_here w = get_or-set_same l.sums p w 0 (omega (arith, low, ok.shape.sums_length))

  row_here : (row : List ℕ) → get_or (set l.rows p row) p [] ≡ row
  row_here row = get_or-set_same l.rows p row [] (omega (arith, low, ok.shape.rows_length))

  changed_shape : (ds : List ℕ) → length ds ≡ 16 → (c w : ℕ) (row : List ℕ) → length row ≡ 32 → (g : ℕ) (o : Bool) →
      Shaped T (with_visit (with_row (record l { deficits = ds }) p c w row) g o)
  changed_shape ds size c w row long g o =
      let z = ok.shape in
      record {
        quanta_length = z.quanta_length;
        maxima_length = z.maxima_length;
        deficits_length = size;
        counts_length = length-set l.counts p c ∙ z.counts_length;
        sums_length = length-set l.sums p w ∙ z.sums_length;
        rows_length = length-set l.rows p row ∙ z.rows_length;
        row_length = λ g x. ⊎_elim
            (λ e. rw e (rw (row_here row) long))
            (λ ne. rw (get_or-set_other l.rows p g row [] ne) (z.row_length g x))
            (same? g p);
      }

  -- "An accepted arrival puts the length at the end of its flow's row and changes nothing else."
  pub puts : (len : ℕ) → 1 ≤ len → len ≤ maximum_of T p → waiting_of l p < most_waiting → Sound T (put l p len)
  puts len least most room =
      let row = set (row_of l p) (waiting_of l p) len in
      let long = ok.shape.row_length p low in
      record {
        shape = changed_shape l.deficits ok.shape.deficits_length (waiting_of l p + 1) (sum_of l p + len) row
            (length-set (row_of l p) (waiting_of l p) len ∙ long) l.place l.opened;
        flows_few = ok.flows_few;
        overhead_in_range = ok.overhead_in_range;
        placed = ok.placed;
        flows = λ g x. ⊎_elim
            (λ e. rw e (rw (count_here (waiting_of l p + 1), sum_here (sum_of l p + len), row_here row)
            (put_flow was in_table long room len least most)))
            (λ ne. rw (
              get_or-set_other l.counts p g (waiting_of l p + 1) 0 ne,
              get_or-set_other l.sums p g (sum_of l p + len) 0 ne,
              get_or-set_other l.rows p g row [] ne,
            ) (ok.flows g x))
            (same? g p);
      }

  module _ (alone : l.opened ≡ true → l.place ≡ p) where
    -- another flow was not visited ..
    unmarked : (g : ℕ) → (g ≡ p → ⊥) → visited l g ≡ false
    unmarked g ne = go l.opened alone
      where
        go : (b : Bool) → (b ≡ true → l.place ≡ p) → (b && eqb l.place g) ≡ false
        go true h = ne_eqb l.place g (λ e. ne (sym e ∙ h refl))
        go false h = refl

    -- .. and is not
    other : (b : Bool) (g : ℕ) → (g ≡ p → ⊥) → (b && eqb p g) ≡ false
    other true g ne = ne_eqb p g (λ e. ne (sym e))
    other false g ne = refl

    -- no packet sent, no visit open
    rests : (d : ℕ) → (waiting_of l p ≡ 0 → d ≡ 0) → (0 < waiting_of l p → d < oldest_charge T l p) →
        Sound T (with_visit (with_deficit l p d) p false)
    rests d a b = record {
      shape = record {
        quanta_length = ok.shape.quanta_length;
        maxima_length = ok.shape.maxima_length;
        deficits_length = length-set l.deficits p d ∙ ok.shape.deficits_length;
        counts_length = ok.shape.counts_length;
        sums_length = ok.shape.sums_length;
        rows_length = ok.shape.rows_length;
        row_length = ok.shape.row_length;
      };
      flows_few = ok.flows_few;
      overhead_in_range = ok.overhead_in_range;
      placed = inl in_table;
      flows = λ g x. ⊎_elim
          (λ e. rw e (rw (deficit_here d)
          (recredit was in_table false d
          (record { visited_below = λ z. absurd (false≢true z); empty_zero = λ _. a; waiting_below = λ _. b }))))
          (λ ne. rw (get_or-set_other l.deficits p g d 0 ne, ← unmarked g ne) (ok.flows g x))
          (same? g p);
    }

    -- its oldest packet sent, its visit open
    serves : 0 < waiting_of l p → (d : ℕ) → d < quantum_of T p →
        Sound T (with_visit (with_row (with_deficit l p d) p (waiting_of l p - 1) (sum_of l p - oldest l p) (shifted_of (row_of l p))) p true)
    serves some d small = record {
      shape = changed_shape (set l.deficits p d) (length-set l.deficits p d ∙ ok.shape.deficits_length) (waiting_of l p - 1)
          (sum_of l p - oldest l p) (shifted_of (row_of l p)) (shift_long (row_of l p) (ok.shape.row_length p low)) p true;
      flows_few = ok.flows_few;
      overhead_in_range = ok.overhead_in_range;
      placed = inl in_table;
      flows = λ g x. ⊎_elim
          (λ e. rw e (rw (
            deficit_here d,
            count_here (waiting_of l p - 1),
            sum_here (sum_of l p - oldest l p),
            row_here (shifted_of (row_of l p)),
            eq-eqb p p refl,
          )
          (sent_flow was in_table (ok.shape.row_length p low) some d small)))
          (λ ne. rw (
            get_or-set_other l.deficits p g d 0 ne,
            get_or-set_other l.counts p g (waiting_of l p - 1) 0 ne,
            get_or-set_other l.sums p g (sum_of l p - oldest l p) 0 ne,
            get_or-set_other l.rows p g (shifted_of (row_of l p)) [] ne,
            other true g ne,
            ← unmarked g ne,
          ) (ok.flows g x))
          (same? g p);
    }

-- ---- a visit to the flow that the search finds
pub found_in : (T : Table) (l : Line) (f : ℕ) → next T l ≡ Some f → (f < T.n) × (0 < waiting_of l f)
unfolding first_of
found_in T l f at = found_waits T.n l.counts T.n _ f (some T.n _ at) at
  where
    some : (n p : ℕ) → first_of n l.counts n p ≡ Some f → 0 < n
    some zero p e = absurd (let z : ◌≡◌ {A = ℕ} 0 1 = cc in omega arith)
    some (suc n) p e = omega arith

module _ (T : Table) (l : Line) (ok : Sound T l) (f : ℕ) (at : next T l ≡ Some f) where
  found : (f < T.n) × (0 < waiting_of l f)
  found = found_in T l f at

  pub grown : deficit_of (open_at T l f) f ≡ deficit_of l f + quantum_of T f
  grown = deficit_here T l ok f found.0 (deficit_of l f + quantum_of T f)

  module _ (off : l.opened ≡ false) where
    shut : l.opened ≡ true → l.place ≡ f
    shut on = absurd (apart on off)

    -- the deficit before the visit
    pub before : deficit_of l f < oldest_charge T l f
    before =
        ((ok.flows f (low T l ok f found.0)).credit found.0).waiting_below (ap (λ (b : Bool). b && eqb l.place f) off) found.1

    pub visit_passes : deficit_of (open_at T l f) f < oldest_charge T l f → Sound T (closed (open_at T l f))
    visit_passes short =
        rests T l ok f found.0 shut (deficit_of l f + quantum_of T f) (λ z. absurd (omega (arith, found.1))) (λ _. rw grown at short)

    pub visit_sends : oldest_charge T l f ≤ deficit_of (open_at T l f) f → Sound T (sent T (open_at T l f) f)
    visit_sends enough =
        rw (set-set l.deficits f (deficit_of l f + quantum_of T f) (deficit_of (open_at T l f) f - oldest_charge T l f))
        (serves T l ok f found.0 shut found.1 (deficit_of (open_at T l f) f - oldest_charge T l f)
        (omega (arith, grown, before, enough)))

-- ---- step 1, in an open visit
module _ (T : Table) (l : Line) (ok : Sound T l) (on : l.opened ≡ true) where
  pub place_in : l.place < T.n
  place_in = ⊎_elim (λ p. p) (λ q. absurd (apart on q.3)) ok.placed

  pub open_below : deficit_of l l.place < quantum_of T l.place
  open_below =
      ((ok.flows l.place (low T l ok l.place place_in)).credit place_in).visited_below (rw (on, eq-eqb l.place l.place refl))

  pub on_sends : Ready T l l.place → Sound T (sent T l l.place)
  on_sends r =
      let z = serves T l ok l.place place_in (λ _. refl) r.0 (deficit_of l l.place - oldest_charge T l l.place)
      (omega (arith, open_below)) in
      rw on z

  pub on_ends : (Ready T l l.place → ⊥) → Sound T (closed (emptied l))
  on_ends stuck =
      rests T l ok l.place place_in (λ _. refl) _
      (λ z. rw (le-ltb 0 (waiting_of l l.place) (omega arith)))
      (λ z. rw (lt-ltb 0 (waiting_of l l.place) z)
      (⊎_elim (λ lt. lt) (λ le. absurd (stuck (z, le))) (below? (deficit_of l l.place) (oldest_charge T l l.place))))
