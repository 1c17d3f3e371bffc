-- Under any lawful order of visits: what a pick and an arrival are to flow i, with what is known of the line after them.
use mathlib.Core.Path.{◌≡◌, refl, sym, ◌∙◌}
use mathlib.Core.Logic.{◌≢◌, ⊎_elim}
use mathlib.Core.Bool.{Bool, true, false, cond}
use mathlib.Core.List.{[], ◌++◌}
use Prim.Native.Nat.{ℕ, ◌+◌, ◌-◌, ◌≤◌, ◌<◌}
use native.Mathlib.Omega.{arith}
use borrow.Author.Tests.{ltb-false, eq-eqb, ne_eqb, eqb-true}
use lib.Dec.{ltb, eqb}
use lib.ListN.{length, set, length-set}
use lib.Seq.{get_or-set_same, get_or-set_other, set-get_or}
use Rattle.std.specs.Prelude.{Some, None}
use Rattle.drr.specs.declared.Table.{Table}
use Rattle.drr.specs.State.{Line, quantum_of, maximum_charge, deficit_of, waiting_of, row_of, lengths_in, oldest, oldest_charge, shifted_of}
use Rattle.drr.specs.Facts.{Sound}
use Rattle.drr.specs.Answers.{Answer, idle, sent_as}
use Rattle.drr.specs.Arrival.{put}
use Rattle.drr.specs.Pick.{next, open_at, closed, emptied, sent, Ready, Looks, Picks}
use Rattle.drr.specs.Pick.Looks.{idles, sends, passes}
use Rattle.drr.specs.Pick.Picks.{goes_on, closes, starts}
use Rattle.drr.specs.Figures.{total}
use Rattle.drr.specs.Floor.{given_in, sent_in, bytes_in}
use Rattle.drr.proofs.Bools.{same?}
use Rattle.drr.proofs.Papers.{sent_not_idle}
use Rattle.drr.proofs.Lengths.{take_first}
use Rattle.drr.proofs.Steps.{found_in, grown, before, visit_passes, place_in, open_below, on_ends}
use Rattle.drr.proofs.Sums.{total_none, total_one}
use Rattle.drr.proofs.Stretches.{View, Stretch, start, quiet}
use Rattle.drr.proofs.Ranks.{only, only_same, only_other, seen, NoPass, rest, send, close, visit_own, visit_other}
use Rattle.drr.proofs.Order.{Order}
use Rattle.drr.proofs.Bounds.{Bounded, charge_within, closed_below, not_open, not_place, sound_bounded, sent_bounded}

module _ (T : Table) {Fit : Line → Type 0} {rank : Line → ℕ → ℕ} (O : Order T Fit rank) (i : ℕ) (i<n : i < T.n) where
  abbrev pub view : Line → View
  view l = seen l.deficits (rank l) i

  -- nothing is sent from the line l to the line m
  abbrev pub Quiet : Line → Line → Type 0
  Quiet l m = Stretch T.n (quantum_of T) i (view l) (λ j. 0) (view m)

  -- what an answer and the line after it are to flow i:
  --   run     a stretch, if i waits                 whole   the bytes are those of all flows
  --   back    the deficits' bounds, with the packet just sent counted back
  --   stays   a flow that was sent bytes is open     took    i's row before is what it was given and its row after
  --   nobody  an idle answer means that nobody waits fit     what the order keeps
  pub record Served (l : Line) (a : Answer) (t : Line) : Type 0 where
    pub run : 0 < waiting_of l i → Stretch T.n (quantum_of T) i (view l) (sent_in T a) (view t)
    pub whole : total T.n (sent_in T a) ≡ bytes_in T a
    pub back : Bounded T t (sent_in T a)
    pub stays : (j : ℕ) → 0 < sent_in T a j → (t.opened ≡ true) × (t.place ≡ j)
    pub took : lengths_in l i ≡ given_in a i ++ lengths_in t i
    pub nobody : a ≡ idle → (j : ℕ) → j < T.n → 0 < waiting_of t j → ⊥
    pub fit : Fit t

  -- a silent step before, which leaves i's row as it was
  after : {l m : Line} {a : Answer} {t : Line} → waiting_of l i ≡ waiting_of m i → row_of l i ≡ row_of m i → (0 < waiting_of l i → Quiet l m) →
      Served m a t → Served l a t
  after c r q s =
      record {
        run = λ w. quiet (q w) (s.run (rw c at w));
        whole = s.whole;
        back = s.back;
        stays = s.stays;
        took = (rw (c, r) refl) ∙ s.took;
        nobody = s.nobody;
        fit = s.fit;
      }

  module _ (l : Line) (fit : Fit l) (ok : Sound T l) where
    inside : (x : ℕ) → x < T.n → x < length l.deficits
    inside x k = omega (arith, ok.flows_few, ok.shape.deficits_length)

    -- ---- steps 2 and 3
    idling : l.opened ≡ false → next T l ≡ None → Served l idle l
    idling off e = record {
      run = λ _. start T.n (quantum_of T) i (view l);
      whole = total_none T.n;
      back = sound_bounded T l ok;
      stays = λ j some. absurd (omega arith);
      took = refl;
      nobody = λ _. O.none l fit off e;
      fit = fit;
    }

    module _ (off : l.opened ≡ false) (x : ℕ) (e : next T l ≡ Some x) where
      abbrev there : Line
      there = open_at T l x

      found : (x < T.n) × (0 < waiting_of l x)
      found = found_in T l x e

      fit_there : Fit there
      fit_there = O.fit_opened l fit off x e

      opening : 0 < waiting_of l i → Quiet l there
      opening w = ⊎_elim
          (λ same. visit_own T.n (quantum_of T) i l.deficits (rank l) (rank there) x (inside x found.0) _ refl same)
          (λ ne. visit_other T.n (quantum_of T) i l.deficits (rank l) (rank there) x (inside x found.0) _ refl ne
          (O.best l fit off x e i i<n w)
          (O.open_last there fit_there refl i i<n (λ d. ne (sym d))) (O.opens l fit off x e i i<n w ne))
          (same? x i)

      passing : 0 < waiting_of l i → Quiet l (closed there)
      passing w = quiet (opening w)
          (rest T.n (quantum_of T) i there.deficits (rank there) (rank (closed there)) (O.closes there fit_there refl i i<n w))

    -- ---- step 1, where nothing is sent
    ending : l.opened ≡ true → 0 < waiting_of l i → Quiet l (closed (emptied l))
    ending on w = by (ltb 0 (waiting_of l p)) refl
      where
        p : ℕ
        p = l.place

        pass : NoPass T.n i (rank l) (rank (closed (emptied l)))
        pass = O.empties l fit on i i<n w

        by : (b : Bool) → ltb 0 (waiting_of l p) ≡ b →
            Stretch T.n (quantum_of T) i (view l) (λ j. 0)
            (seen (set l.deficits p (cond b (deficit_of l p) 0)) (rank (closed (emptied l))) i)
        by true e = rw (set-get_or l.deficits p 0) (rest T.n (quantum_of T) i l.deficits (rank l) (rank (closed (emptied l))) pass)
        by false e =
            close T.n (quantum_of T) i l.deficits (rank l) (rank (closed (emptied l))) p (inside p (place_in T l ok on)) 0
            (omega arith)
            (λ d. omega (arith, rw d at (ltb-false 0 (waiting_of l p) e))) pass

  -- ---- a packet sent in the open visit of the line m, whose counts and rows are a sound line's
  pub record Open (m : Line) : Type 0 where
    pub fit : Fit m
    pub on : m.opened ≡ true
    pub in_table : m.place < T.n
    pub deficits_in : m.place < length m.deficits
    pub counts_in : m.place < length m.counts
    pub rows_in : m.place < length m.rows
    pub count_in : waiting_of m m.place ≤ length (row_of m m.place)
    pub ready : Ready T m m.place
    pub own_below : deficit_of m m.place < maximum_charge T m.place + quantum_of T m.place
    pub others_below : (j : ℕ) → j < T.n → j ≢ m.place → deficit_of m j < maximum_charge T j

  sending : (m : Line) → Open m → (v : ℕ) →
      Served m (sent_as m.place (oldest m m.place) (deficit_of (sent T m m.place) m.place) v) (sent T m m.place)
  unfolding only
  sending m o v =
      record {
        run = λ w. send T.n (quantum_of T) i m.deficits (rank m) (rank (sent T m p)) p o.deficits_in (oldest_charge T m p)
            o.ready.1 (O.sends m o.fit o.on i);
        whole = total_one T.n (only p (oldest_charge T m p)) p o.in_table (only_other p (oldest_charge T m p))
            ∙ only_same p (oldest_charge T m p);
        back = sent_bounded T m o.on o.deficits_in o.ready.1 o.own_below o.others_below;
        stays = λ j some. stays j (eqb p j) refl some;
        took = ⊎_elim (λ e. rw e
            (rw (
              eq-eqb p p refl,
              get_or-set_same m.counts p (waiting_of m p - 1) 0 o.counts_in,
              get_or-set_same m.rows p (shifted_of (row_of m p)) [] o.rows_in,
            )
            (take_first (row_of m p) (waiting_of m p) o.ready.0 o.count_in)))
            (λ ne. rw (
              ne_eqb p i (λ d. ne (sym d)),
              get_or-set_other m.counts p i (waiting_of m p - 1) 0 ne,
              get_or-set_other m.rows p i (shifted_of (row_of m p)) [] ne,
            ) refl)
            (same? i p);
        nobody = λ is. absurd (sent_not_idle is);
        fit = O.fit_sent m o.fit o.on;
      }
    where
      p : ℕ
      p = m.place

      stays : (j : ℕ) (b : Bool) → eqb p j ≡ b → 0 < cond b (oldest_charge T m p) 0 → (m.opened ≡ true) × (p ≡ j)
      stays j true e some = (o.on, eqb-true p j e)
      stays j false e some = absurd (omega arith)

  -- ---- the picks
  looks_serve : {v : ℕ} {l : Line} {a : Answer} {t : Line} → Looks T v l a t → Sound T l → l.opened ≡ false → Fit l → Served l a t
  looks_serve (idles {l = l} e) ok off fit = idling l fit ok off e
  looks_serve (sends {v = v} {l = l} {f = f} e enough) ok off fit =
      let k = found_in T l f e in
      let low : f < 16 = omega (arith, ok.flows_few) in
      after refl refl (opening l fit ok off f e) (sending (open_at T l f) (record {
        fit = O.fit_opened l fit off f e;
        on = refl;
        in_table = k.0;
        deficits_in = rw (length-set l.deficits f (deficit_of l f + quantum_of T f)) (omega (arith, ok.shape.deficits_length));
        counts_in = omega (arith, ok.shape.counts_length);
        rows_in = omega (arith, ok.shape.rows_length);
        count_in = omega (arith, ok.shape.row_length f low, ((ok.flows f low).used k.0).count_most);
        ready = (k.1, enough);
        own_below = omega (arith, grown T l ok f e, before T l ok f e off, charge_within T l ok f k.0 k.1);
        others_below = λ j q ne. rw (get_or-set_other l.deficits f j (deficit_of l f + quantum_of T f) 0 ne)
            (closed_below T l ok j q (not_open l j off));
      }) (v + 1))
  looks_serve (passes {l = l} {f = f} e short r) ok off fit =
      after refl refl (passing l fit ok off f e)
      (looks_serve r (visit_passes T l ok f e off short) refl (O.fit_closed (open_at T l f) (O.fit_opened l fit off f e) refl))

  pub picks_serve : {l : Line} {a : Answer} {t : Line} → Picks T l a t → Sound T l → Fit l → Served l a t
  picks_serve (goes_on {l = l} on r) ok fit =
      let k = place_in T l ok on in
      let low : l.place < 16 = omega (arith, ok.flows_few) in
      sending l (record {
        fit = fit;
        on = on;
        in_table = k;
        deficits_in = omega (arith, ok.shape.deficits_length);
        counts_in = omega (arith, ok.shape.counts_length);
        rows_in = omega (arith, ok.shape.rows_length);
        count_in = omega (arith, ok.shape.row_length l.place low, ((ok.flows l.place low).used k).count_most);
        ready = r;
        own_below = omega (arith, open_below T l ok on);
        others_below = λ j q ne. closed_below T l ok j q (not_place l j ne);
      }) 0
  picks_serve (closes {l = l} on stuck r) ok fit =
      after refl refl (ending l fit ok on) (looks_serve r (on_ends T l ok on stuck) refl (O.fit_emptied l fit on))
  picks_serve (starts off r) ok fit = looks_serve r ok off fit

  -- ---- an accepted arrival
  pub booking : (l : Line) → Fit l → (x len : ℕ) → x < T.n → Quiet l (put l x len)
  booking l fit x len k = rest T.n (quantum_of T) i l.deficits (rank l) (rank (put l x len)) (O.books l fit x len k i)
