-- The run's loop: what holds before each turn, and what each kind of turn leaves.
use mathlib.Core.Path.{◌≡◌, refl, sym, ap, subst, ◌∙◌}
use mathlib.Core.Bool.{Bool, true, false, cond, ◌&&◌, true≢false}
use mathlib.Core.List.{List, [], ◌∷◌, ◌++◌}
use mathlib.Core.Logic.{⊎_elim}
use Prim.Native.Nat.{ℕ, zero, suc, ◌+◌, ◌*◌, ◌-◌, ◌≤◌, ◌<◌}
use native.Mathlib.Nat.{sub-zero}
use native.Mathlib.Omega.{arith}
use borrow.Author.Tests.{le-leb, lt-leb, leb-true, leb-false, lt-ltb, le-ltb, ltb-true, eq-eqb}
use lib.Dec.{leb, ltb, eqb}
use lib.ListN.{length, drop, get_or-eq_default}
use Rattle.drr.specs.declared.Table.{Table}
use Rattle.drr.specs.declared.PickAnswer.{PickAnswer}
use Rattle.drr.specs.declared.PickAnswer.TheVariants.{Idle, Sent, Refused}
use Rattle.drr.specs.Limits.{most_flows, most_maximum, most_charge, most_waiting}
use Rattle.drr.specs.State.{Line, waiting_of, bytes_waiting, maximum_of, charge, fresh_line}
use Rattle.drr.specs.Facts.{Sound, Ranged}
use Rattle.drr.specs.Answers.{number_of, Answer, idle, sent_as, length_in, pick_paper, Outcome, outcome}
use Rattle.drr.specs.Arrival.{arrival_of}
use Rattle.drr.specs.Computed.{pick_of}
use Rattle.drr.proofs.Bools.{apart, by_test, below?}
use Rattle.drr.proofs.Papers.{number_some, sent_not_idle}
use Rattle.drr.proofs.Tables.{fresh_sound}
use Rattle.drr.proofs.Calls.{pick_fine}
use Rattle.drr.proofs.Keeps.{arrival_keeps, pick_keeps}
use Rattle.drr.proofs.Waiting.{waiting_all, fresh_waits, put_waits, PickedAs, idled, gave, pick_as}
use Rattle.runfile.specs.declared.turns.Tally.{Tally}
use Rattle.runfile.specs.File.{Event, event_at, events_from}
use Rattle.runfile.specs.Run.{Act, comes, asks, free, still, onward, calls, enough}
use Rattle.runfile.specs.Listing.{tally, drop_line, start_line, after_event, after_pick, listing, events_listing, written}
use Rattle.runfile.specs.Listing.{beside_event, beside_of, beside_all, events_waiting}
use Rattle.runfile.specs.Needs.{at_flow, comeb}
use Rattle.runfile.proofs.Lines.{Filling, filling_first, filling_on, filling_more, filling_ends}

-- ---- an arrival: accepted, one more waits; refused, the line is as it was
pub arrival_waits : (T : Table) (l : Line) → Sound T l → (f len : ℕ) →
    waiting_all (arrival_of T l f len).line ≡ waiting_all l + cond (eqb (arrival_of T l f len).answer.refusal 0) 1 0
unfolding arrival_of
arrival_waits T l ok f len =
    by_test P (leb T.n f) (λ _. none) (λ a. by_test P (eqb len 0) (λ _. none) (λ _.
    by_test P (ltb (maximum_of T f) len) (λ _. none)
    (λ _. by_test P (leb most_waiting (waiting_of l f)) (λ _. none) (λ _. put_waits T l ok f len (leb-false T.n f a)))))
  where
    P : Outcome → Type 0
    P o = waiting_all o.line ≡ waiting_all l + cond (eqb o.answer.refusal 0) 1 0

    none : waiting_all l ≡ waiting_all l + 0
    none = omega arith

-- ---- the next of the events that are left
module _ (t : List ℕ) (m at : ℕ) where
  abbrev left : List Event
  left = events_from t at (m - at)

  left_none : m ≤ at → left ≡ []
  left_none h = let e : m - at ≡ 0 = omega arith in rw e

  left_more : at < m → left ≡ event_at t at ∷ events_from t (at + 1) (m - (at + 1))
  left_more h = let e : m - at ≡ suc (m - (at + 1)) = omega arith in rw e

pub events_length : (t : List ℕ) (at k : ℕ) → length (events_from t at k) ≡ k
events_length t at zero = refl
events_length t at (suc k) = ap suc (events_length t (at + 1) k)

-- the lines written when so many were sent and refused
abbrev pub lines : Tally → ℕ
lines y = y.sent + y.refused

-- an event, by whether it is accepted: a packet more waits, or there is a line more, of w numbers
pub event_counts : (y : Tally) (b : Bool) → y.sent + cond b y.refused (y.refused + 1) + cond b 1 0 ≡ lines y + 1
event_counts y true = omega arith
event_counts y false = omega arith

pub event_size : (w : ℕ) (y : Tally) (v : List ℕ) → length v ≡ w → (b : Bool) →
    w * (y.sent + cond b y.refused (y.refused + 1)) ≡ w * lines y + length (cond b [] v)
event_size w y v e true = omega arith
event_size w y v e false = omega (arith, e)

-- what is read of a sound line for a flow is the number beside the flow's line
beside_is : (T : Table) (l : Line) → Sound T l → (f n : ℕ) → n ≡ at_flow l.sums f → n ≡ bytes_waiting l f
beside_is T l ok f n is = is ∙ ⊎_elim
    (λ low. rw (lt-ltb f most_flows low) (ok.flows f low).true_sum)
    (λ high. rw (le-ltb f most_flows high, get_or-eq_default l.counts 0 {n = f} (omega (arith, ok.shape.counts_length))))
    (below? f most_flows)

-- 0 where the next event has come, 1 where a pick comes first
abbrev pub late : List ℕ → ℕ → ℕ → ℕ → ℕ
late t m now at = cond (ltb at m && leb (event_at t at).tick now) 0 1

late_most : (t : List ℕ) (m now at : ℕ) → late t m now at ≤ 1
late_most t m now at = by_test (λ (k : ℕ). k ≤ 1) (ltb at m && leb (event_at t at).tick now) (λ _. omega arith) (λ _. omega arith)

late_not : (t : List ℕ) (m now at : ℕ) → at < m → (event_at t at).tick ≤ now → late t m now at ≡ 0
late_not t m now at a b = rw (lt-ltb at m a, le-leb (event_at t at).tick now b)

-- the next event, if there is one, has not come
abbrev pub Later : List ℕ → ℕ → ℕ → ℕ → Type 0
Later t m now at = at < m → now < (event_at t at).tick

-- the test before a pick
pub has_come : (t : List ℕ) (m now at : ℕ) {r : Bool} → r ≡ comeb t m at now → r ≡ true → (at < m) × ((event_at t at).tick ≤ now)
has_come t m now at e passed = by (ltb at m) refl (sym e ∙ passed)
  where
    by : (b : Bool) → ltb at m ≡ b → cond b (leb (event_at t at).tick now) false ≡ true → (at < m) × ((event_at t at).tick ≤ now)
    by true p q = (ltb-true at m p, leb-true (event_at t at).tick now q)
    by false p q = absurd (true≢false (sym q))

pub not_come : (t : List ℕ) (m now at : ℕ) {r : Bool} → r ≡ comeb t m at now → r ≡ false → Later t m now at
not_come t m now at e failed more = leb-false (event_at t at).tick now (rw (lt-ltb at m more) at (sym e ∙ failed))

late_is : (t : List ℕ) (m now at : ℕ) → Later t m now at → late t m now at ≡ 1
late_is t m now at later = ⊎_elim
    (λ a. rw (lt-ltb at m a, lt-leb (event_at t at).tick now (later a)))
    (λ b. rw (le-ltb at m b))
    (below? at m)

-- no event, and an idle line: the run is over, and line 3 is all that is left
over : (T : Table) (l : Line) (k : ℕ) → calls k T still [] l ≡ []
unfolding calls
over T l zero = refl
over T l (suc k) = refl

closing : (T : Table) (l : Line) (y : Tally) → listing T [] l y ≡ 3 ∷ y.last ∷ y.sent ∷ y.refused ∷ 0 ∷ 0 ∷ []
unfolding listing
closing T l y = refl

-- The run of the m events of t, into the lent lists o₀ and b₀, of which one is to get its listing L, the other the numbers W beside it:
-- at the tick `now` with `at` events passed, the count y, the line l and the lists o and b, what is written, with what the calls from here
-- on will give, is L, and W.
pub record Inside (T : Table) (t : List ℕ) (m : ℕ) (o₀ L b₀ W : List ℕ) (now at : ℕ) (y : Tally) (l : Line) (o b : List ℕ) : Type 0 where
  pub sound : Sound T l
  pub at_most : at ≤ m
  pub each_one : lines y + waiting_all l ≡ at
  pub now_most : now ≤ 4294967296 + most_charge * y.sent
  pub fuel : ℕ
  pub enough_fuel : 4 * (m - at) + 2 * waiting_all l + late t m now at ≤ fuel
  pub listed : Filling 6 o₀ L (lines y) (listing T (calls fuel T (free now) (left t m at) l) l y) o
  pub besides : Filling 1 b₀ W (lines y) (beside_all T (calls fuel T (free now) (left t m at) l) l) b

-- what falls with each turn
abbrev pub ahead_of : List ℕ → ℕ → ℕ → ℕ → Line → ℕ
ahead_of t m now at l = 4 * (m - at) + 2 * waiting_all l + late t m now at

-- a run before one of its turns
pub record Here : Type 0 where
  pub table : Table
  pub file : List ℕ
  pub events : ℕ
  pub before : List ℕ
  pub whole : List ℕ
  pub room : 6 * (events + 1) ≤ length before
  pub before_beside : List ℕ
  pub whole_beside : List ℕ
  pub room_beside : events ≤ length before_beside
  pub tick : ℕ
  pub passed : ℕ
  pub count : Tally
  pub line : Line
  pub list : List ℕ
  pub beside : List ℕ
  pub inside : Inside table file events before whole before_beside whole_beside tick passed count line list beside

module _ (H : Here) where
  abbrev T : Table
  T = H.table

  abbrev t : List ℕ
  t = H.file

  abbrev m : ℕ
  m = H.events

  abbrev o₀ : List ℕ
  o₀ = H.before

  abbrev L : List ℕ
  L = H.whole

  abbrev b₀ : List ℕ
  b₀ = H.before_beside

  abbrev W : List ℕ
  W = H.whole_beside

  abbrev now : ℕ
  now = H.tick

  abbrev at : ℕ
  at = H.passed

  abbrev y : Tally
  y = H.count

  abbrev l : Line
  l = H.line

  abbrev o : List ℕ
  o = H.list

  abbrev b : List ℕ
  b = H.beside

  abbrev h : Inside T t m o₀ L b₀ W now at y l o b
  h = H.inside

  -- the same run, somewhere else
  abbrev On : ℕ → ℕ → Tally → Line → List ℕ → List ℕ → Type 0
  On = Inside T t m o₀ L b₀ W

  abbrev ahead_at : ℕ → ℕ → Line → ℕ
  ahead_at = ahead_of t m

  pub lines_most : lines y ≤ at
  lines_most = omega (arith, h.each_one)

  -- there is room for a line more, and beside it where line 3 is still to come after it
  pub line_fits : 6 * lines y + 6 ≤ length o
  line_fits = omega (arith, h.listed.size, h.each_one, h.at_most)

  pub beside_fits : lines y < m → 1 * lines y + 1 ≤ length b
  beside_fits less = omega (arith, h.besides.size, H.room_beside)

  -- the calls from here on, with fuel f: what they list, and beside it
  abbrev ahead : ℕ → List ℕ
  ahead f = listing T (calls f T (free now) (left t m at) l) l y

  abbrev aside : ℕ → List ℕ
  aside f = beside_all T (calls f T (free now) (left t m at) l) l

  -- ---- the next event has come: it is booked
  module _ (more : at < m) (has_come : (event_at t at).tick ≤ now) (a : Answer) (l' : Line)
      (e : outcome a l' ≡ arrival_of T l (event_at t at).flow (event_at t at).length) where
    abbrev ev : Event
    ev = event_at t at

    abbrev v : List ℕ
    v = drop_line ev.tick ev.flow ev.length a.refusal

    abbrev u : List ℕ
    u = beside_event a.refusal (bytes_waiting l' ev.flow)

    abbrev y' : Tally
    y' = after_event ev.tick a.refusal y

    comes_next : (k : ℕ) →
        calls (suc k) T (free now) (left t m at) l
        ≡ comes ev.tick ev.flow ev.length ∷ calls k T (free now) (left t m (at + 1)) (arrival_of T l ev.flow ev.length).line
    unfolding calls
    comes_next k = rw (left_more t m at more) (rw (le-leb ev.tick now has_come) refl)

    step_books : (k : ℕ) → ahead (suc k) ≡ v ++ listing T (calls k T (free now) (left t m (at + 1)) l') l' y'
    unfolding listing
    step_books k =
        ap (λ (ks : List Act). listing T ks l y) (comes_next k)
        ∙ ap (λ (z : Outcome). drop_line ev.tick ev.flow ev.length z.answer.refusal
        ++ listing T (calls k T (free now) (left t m (at + 1)) z.line) z.line (after_event ev.tick z.answer.refusal y)) (sym e)

    step_aside : (k : ℕ) → aside (suc k) ≡ u ++ beside_all T (calls k T (free now) (left t m (at + 1)) l') l'
    step_aside k =
        ap (λ (ks : List Act). beside_all T ks l) (comes_next k)
        ∙ ap (λ (z : Outcome). beside_event z.answer.refusal (bytes_waiting z.line ev.flow)
        ++ beside_all T (calls k T (free now) (left t m (at + 1)) z.line) z.line) (sym e)

    -- the lines written, the packets waiting
    counted : lines y' + cond (eqb a.refusal 0) 1 0 ≡ lines y + 1
    counted = event_counts y (eqb a.refusal 0)

    waits : waiting_all l' ≡ waiting_all l + cond (eqb a.refusal 0) 1 0
    waits = subst (λ (z : Outcome). waiting_all z.line ≡ waiting_all l + cond (eqb z.answer.refusal 0) 1 0) (sym e)
        (arrival_waits T l h.sound ev.flow ev.length)

    one : (b : Bool) → cond b 1 0 ≤ 1
    one true = omega arith
    one false = omega arith

    sound_booked : Sound T l'
    sound_booked = subst (λ (z : Outcome). Sound T z.line) (sym e) (arrival_keeps T l h.sound ev.flow ev.length)

    pub inside_books : (o' : List ℕ) → o' ≡ written 6 o (lines y) v → (n : ℕ) → n ≡ at_flow l'.sums ev.flow → (b' : List ℕ) →
        b' ≡ written 1 b (lines y) (beside_event a.refusal n) → On now (at + 1) y' l' o' b'
    inside_books o' is n is-n b' is_b = by h.fuel refl
      where
        u_is : b' ≡ written 1 b (lines y) u
        u_is = is_b
            ∙ ap (λ (x : ℕ). written 1 b (lines y) (beside_event a.refusal x)) (beside_is T l' sound_booked ev.flow n is-n)

        v_next : 6 * lines y' ≡ 6 * lines y + length v
        v_next = event_size 6 y (2 ∷ ev.tick ∷ ev.flow ∷ ev.length ∷ a.refusal ∷ 0 ∷ []) refl (eqb a.refusal 0)

        u_next : 1 * lines y' ≡ 1 * lines y + length u
        u_next = event_size 1 y (bytes_waiting l' ev.flow ∷ []) refl (eqb a.refusal 0)

        v_fits : 6 * lines y + length v ≤ length o
        v_fits = omega (arith, line_fits, v_next, counted)

        u_fits : 1 * lines y + length u ≤ length b
        u_fits = omega (arith, beside_fits (omega (arith, lines_most)), u_next, counted)

        by : (f : ℕ) → h.fuel ≡ f → On now (at + 1) y' l' o' b'
        by zero q = absurd (omega (arith, h.enough_fuel))
        by (suc k) q = record {
          sound = sound_booked;
          at_most = omega arith;
          each_one = omega (arith, h.each_one, counted, waits);
          now_most = h.now_most;
          fuel = k;
          enough_fuel = omega (arith, h.enough_fuel, waits, one (eqb a.refusal 0), late_most t m now (at + 1));
          listed = filling_more h.listed v _ (ap ahead q ∙ step_books k) v_fits (lines y') v_next o' is;
          besides = filling_more h.besides u _ (ap aside q ∙ step_aside k) u_fits (lines y') u_next b' u_is;
        }

    pub books_less : ahead_at now (at + 1) l' < ahead_at now at l
    books_less = omega (arith, waits, one (eqb a.refusal 0), late_most t m now (at + 1))

  -- ---- no event has come: a pick is made
  module _ (later : Later t m now at) (a : Answer) (l' : Line) (e : outcome a l' ≡ pick_of T l) where
    asks_next : (k : ℕ) →
        calls (suc k) T (free now) (left t m at) l
        ≡ asks now ∷ calls k T (onward T now (pick_of T l).answer) (left t m at) (pick_of T l).line
    unfolding calls
    asks_next k = ⊎_elim
        (λ more. rw (left_more t m at more) (rw (lt-leb (event_at t at).tick now (later more)) refl))
        (λ none. rw (left_none t m at none) refl)
        (below? at m)

    step_picks : (k : ℕ) →
        ahead (suc k) ≡ start_line now a ++ listing T (calls k T (onward T now a) (left t m at) l') l' (after_pick T now a y)
    unfolding listing
    step_picks k =
        ap (λ (ks : List Act). listing T ks l y) (asks_next k)
        ∙ ap (λ (z : Outcome). start_line now z.answer
        ++ listing T (calls k T (onward T now z.answer) (left t m at) z.line) z.line (after_pick T now z.answer y)) (sym e)

    step_asks : (k : ℕ) → aside (suc k) ≡ beside_of (asks now) a l' ++ beside_all T (calls k T (onward T now a) (left t m at) l') l'
    step_asks k =
        ap (λ (ks : List Act). beside_all T ks l) (asks_next k)
        ∙ ap (λ (z : Outcome). beside_of (asks now) z.answer z.line
        ++ beside_all T (calls k T (onward T now z.answer) (left t m at) z.line) z.line) (sym e)

    picked : PickedAs l a l'
    picked = subst (λ (z : Outcome). PickedAs l z.answer z.line) (sym e) (pick_as T l h.sound)

    sound' : Sound T l'
    sound' = subst (λ (z : Outcome). Sound T z.line) (sym e) (pick_keeps T l h.sound)

    some_fuel : (f : ℕ) → h.fuel ≡ f → 4 * (m - at) + 2 * waiting_all l + 1 ≤ f
    some_fuel f q = omega (arith, h.enough_fuel, late_is t m now at later)

  -- it sends: a line, and the line is busy for as many ticks as the packet is charged
  module _ (later : Later t m now at) (f len d w : ℕ) (l' : Line) (e : outcome (sent_as f len d w) l' ≡ pick_of T l) where
    sent_is : (len ≤ most_maximum) × (waiting_all l' + 1 ≡ waiting_all l)
    sent_is = by (picked later (sent_as f len d w) l' e)
      where
        by : PickedAs l (sent_as f len d w) l' → (len ≤ most_maximum) × (waiting_all l' + 1 ≡ waiting_all l)
        by (idled x _ _) = absurd (sent_not_idle x)
        by (gave f' len' d' w' x less most) = (omega (arith, ap length_in x), less)

    pub sent_most : len ≤ most_maximum
    sent_most = sent_is.0

    -- the line's flow is one that waits: line 3 is still to come
    pub sent_before : lines y < m
    sent_before = omega (arith, h.each_one, h.at_most, sent_is.1)

    pub inside_sends : (o' : List ℕ) → o' ≡ written 6 o (lines y) (1 ∷ now ∷ f ∷ len ∷ d ∷ w ∷ []) → (n : ℕ) →
        n ≡ at_flow l'.sums f → (b' : List ℕ) → b' ≡ written 1 b (lines y) (n ∷ []) →
        On (now + charge T len) at (tally (y.sent + 1) y.refused (now + charge T len)) l' o' b'
    inside_sends o' is n is-n b' is_b = by h.fuel refl
      where
        a : Answer
        a = sent_as f len d w

        k' : ℕ
        k' = y.sent + 1 + y.refused

        next : (x : ℕ) → x * k' ≡ x * lines y + x
        next x = omega arith

        u_is : b' ≡ written 1 b (lines y) (bytes_waiting l' f ∷ [])
        u_is = is_b ∙ ap (λ (x : ℕ). written 1 b (lines y) (x ∷ [])) (beside_is T l' (sound' later a l' e) f n is-n)

        by : (fu : ℕ) → h.fuel ≡ fu → On (now + charge T len) at (tally (y.sent + 1) y.refused (now + charge T len)) l' o' b'
        by zero q = absurd (omega (arith, some_fuel later a l' e zero q))
        by (suc k) q = record {
          sound = sound' later a l' e;
          at_most = h.at_most;
          each_one = omega (arith, h.each_one, sent_is.1);
          now_most = omega (arith, h.now_most, sent_most, h.sound.overhead_in_range);
          fuel = k;
          enough_fuel = omega (arith, some_fuel later a l' e (suc k) q, sent_is.1, late_most t m (now + charge T len) at);
          listed = filling_more h.listed (1 ∷ now ∷ f ∷ len ∷ d ∷ w ∷ []) _ (ap ahead q ∙ step_picks later a l' e k) line_fits k'
              (next 6) o' is;
          besides = filling_more h.besides (bytes_waiting l' f ∷ []) _ (ap aside q ∙ step_asks later a l' e k) (beside_fits sent_before)
              k' (next 1) b' u_is;
        }

    pub sends_less : ahead_at (now + charge T len) at l' < ahead_at now at l
    sends_less = omega (arith, sent_is.1, late_most t m (now + charge T len) at)

  -- it is idle
  module _ (later : Later t m now at) (l' : Line) (e : outcome idle l' ≡ pick_of T l) where
    idle_is : (waiting_all l' ≡ 0) × (waiting_all l ≡ 0)
    idle_is = by (picked later idle l' e)
      where
        by : PickedAs l idle l' → (waiting_all l' ≡ 0) × (waiting_all l ≡ 0)
        by (idled _ x z) = (x, z)
        by (gave f' len' d' w' x less most) = absurd (sent_not_idle (sym x))

    -- with an event left, now becomes its tick
    module _ (more : at < m) where
      abbrev tick : ℕ
      tick = (event_at t at).tick

      jumps : (k : ℕ) → calls (suc k) T still (left t m at) l' ≡ calls (suc k) T (free tick) (left t m at) l'
      unfolding calls
      jumps k = rw (left_more t m at more) (rw (le-leb tick tick (omega arith)) refl)

      pub inside_jumps : tick < 4294967296 → On tick at y l' o b
      inside_jumps small = by h.fuel refl
        where
          by : (fu : ℕ) → h.fuel ≡ fu → On tick at y l' o b
          by zero q = absurd (omega (arith, some_fuel later idle l' e zero q))
          by (suc zero) q = absurd (omega (arith, some_fuel later idle l' e 1 q))
          by (suc (suc k)) q = record {
            sound = sound' later idle l' e;
            at_most = h.at_most;
            each_one = omega (arith, h.each_one, idle_is.0, idle_is.1);
            now_most = omega arith;
            fuel = suc k;
            enough_fuel = omega (arith, some_fuel later idle l' e (suc (suc k)) q, idle_is.0, late_not t m tick at more (omega arith));
            listed = filling_on h.listed _
                (ap ahead q ∙ step_picks later idle l' e (suc k) ∙ ap (λ (ks : List Act). listing T ks l' y) (jumps k));
            besides = filling_on h.besides _
                (ap aside q ∙ step_asks later idle l' e (suc k) ∙ ap (λ (ks : List Act). beside_all T ks l') (jumps k));
          }

      pub jumps_less : ahead_at tick at l' < ahead_at now at l
      jumps_less = omega (arith, idle_is.0, late_not t m tick at more (omega arith), late_is t m now at later)

    -- with none left, the run ends
    pub run_ends : m ≤ at → (o' : List ℕ) → o' ≡ written 6 o (lines y) (3 ∷ y.last ∷ y.sent ∷ y.refused ∷ 0 ∷ 0 ∷ []) →
        (o' ≡ L ++ drop (6 * (m + 1)) o₀) × (b ≡ W ++ drop m b₀)
    run_ends none o' is = by h.fuel refl
      where
        all : lines y ≡ m
        all = omega (arith, h.each_one, idle_is.1, h.at_most)

        -- no call is left after the pick
        none_ahead : (k : ℕ) → calls k T still (left t m at) l' ≡ []
        none_ahead k = ap (λ (es : List Event). calls k T still es l') (left_none t m at none) ∙ over T l' k

        by : (fu : ℕ) → h.fuel ≡ fu → (o' ≡ L ++ drop (6 * (m + 1)) o₀) × (b ≡ W ++ drop m b₀)
        by zero q = absurd (omega (arith, some_fuel later idle l' e zero q))
        by (suc k) q =
            let last_line = ap ahead q ∙ step_picks later idle l' e k ∙ ap (λ (ks : List Act). listing T ks l' y) (none_ahead k)
            ∙ closing T l' y in
            let last-beside = ap aside q ∙ step_asks later idle l' e k ∙ ap (λ (ks : List Act). beside_all T ks l') (none_ahead k) in
            let o-fills = filling_more h.listed (3 ∷ y.last ∷ y.sent ∷ y.refused ∷ 0 ∷ 0 ∷ []) [] last_line line_fits (lines y + 1)
            (omega arith) o' is in (
              filling_ends o-fills refl ∙ ap (λ (i : ℕ). L ++ drop (6 * (i + 1)) o₀) all,
              filling_ends h.besides last-beside ∙ (let z : 1 * lines y ≡ m = omega (arith, all) in ap (λ (i : ℕ). W ++ drop i b₀) z),
            )

  -- ---- the same, as the code takes it: with numbers that it read, widened and counted
  module _ (tick flow len : ℕ) (is_tick : tick ≡ (event_at t at).tick) (is_flow : flow ≡ (event_at t at).flow)
      (is_len : len ≡ (event_at t at).length)
      (more : at < m) (has_come : tick ≤ now) (a : Answer) (l' : Line) (e : outcome a l' ≡ arrival_of T l flow len) where
    e' : outcome a l' ≡ arrival_of T l (event_at t at).flow (event_at t at).length
    e' = rw (is_flow, is_len) at e

    pub books : (o' : List ℕ) → o' ≡ written 6 o (lines y) (drop_line tick flow len a.refusal) →
        (n : ℕ) → n ≡ at_flow l'.sums flow → (b' : List ℕ) → b' ≡ written 1 b (lines y) (beside_event a.refusal n) →
        (r : ℕ) → r ≡ a.refusal → (z : Tally) → z ≡ after_event tick r y → On now (at + 1) z l' o' b'
    books o' is n is-n b' is_b r is-r z is-z =
        rw (is-z, is-r, is_tick)
        (inside_books more (rw is_tick at has_come) a l' e' o' (rw (is_tick, is_flow, is_len) at is) n (rw is_flow at is-n) b' is_b)

    pub booked_less : ahead_at now (at + 1) l' < ahead_at now at l
    booked_less = books_less more (rw is_tick at has_come) a l' e'

  module _ (later : Later t m now at) (a : Answer) (l' : Line) (e : outcome a l' ≡ pick_of T l) (f len d w : ℕ)
      (told : a ≡ sent_as f len d w) where
    e'' : outcome (sent_as f len d w) l' ≡ pick_of T l
    e'' = ap (λ (b : Answer). outcome b l') (sym told) ∙ e

    pub given_most : len ≤ most_maximum
    given_most = sent_most later f len d w l' e''

    pub given_before : lines y < m
    given_before = sent_before later f len d w l' e''

    -- the tick at which the line falls free, as it was computed
    module _ (end : ℕ) (is-end : end ≡ now + charge T len) where
      pub sends : (o' : List ℕ) → o' ≡ written 6 o (lines y) (1 ∷ now ∷ f ∷ len ∷ d ∷ w ∷ []) →
          (n : ℕ) → n ≡ at_flow l'.sums f → (b' : List ℕ) → b' ≡ written 1 b (lines y) (n ∷ []) →
          (z : Tally) → z ≡ tally (y.sent + 1) y.refused end → On end at z l' o' b'
      sends o' is n is-n b' is_b z is-z = rw (is-z, is-end) (inside_sends later f len d w l' e'' o' is n is-n b' is_b)

      pub sent_less : ahead_at end at l' < ahead_at now at l
      sent_less = rw is-end (sends_less later f len d w l' e'')

-- an answer of the pick that is not Sent is idle: a sound line's pick is not refused
pub not_sent : (T : Table) (l : Line) (a : PickAnswer) (l' : Line) → outcome (pick_paper a) l' ≡ pick_of T l →
    ((f len d w : ℕ) → a ≡ Sent f len d w → ⊥) → outcome idle l' ≡ pick_of T l
not_sent T l Idle l' e o = e
not_sent T l (Sent f len d w) l' e o = absurd (o f len d w refl)
not_sent T l (Refused why) l' e o =
    absurd (let z : number_of why ≡ 0 = (ap (λ (z : Outcome). z.answer.refusal) e ∙ pick_fine T l) in
    apart (eq-eqb (number_of why) 0 z) (number_some why))

-- a run before one of its turns, of what its loop keeps
abbrev pub here : {T : Table} {t : List ℕ} {m : ℕ} {o₀ L b₀ W : List ℕ} {now at : ℕ} {y : Tally} {l : Line} {o b : List ℕ} →
    6 * (m + 1) ≤ length o₀ → m ≤ length b₀ → Inside T t m o₀ L b₀ W now at y l o b → Here
here {T = T} {t = t} {m = m} {o₀ = o₀} {L = L} {b₀ = b₀} {W = W} {now = now} {at = at} {y = y} {l = l} {o = o} {b = b} room room_beside inside = record {
  table = T;
  file = t;
  events = m;
  before = o₀;
  whole = L;
  room = room;
  before_beside = b₀;
  whole_beside = W;
  room_beside = room_beside;
  tick = now;
  passed = at;
  count = y;
  line = l;
  list = o;
  beside = b;
  inside = inside;
}

-- the start: nothing is written, and all is to come
pub inside_first : (T : Table) (t : List ℕ) (m : ℕ) (o b : List ℕ) → Ranged T →
    Inside T t m o (events_listing T (events_from t 0 m)) b (events_waiting T (events_from t 0 m)) 0 0 (tally 0 0 0) (fresh_line T.n) o b
inside_first T t m o b r = record {
  sound = fresh_sound r;
  at_most = omega arith;
  each_one = omega (arith, fresh_waits T.n);
  now_most = omega arith;
  fuel = enough (events_from t 0 m);
  enough_fuel = omega (arith, events_length t 0 m, late_most t m 0 0, fresh_waits T.n);
  listed = filling_on (filling_first 6 o _) _ (ap (λ (ks : List Act). listing T ks (fresh_line T.n) (tally 0 0 0)) all);
  besides = filling_on (filling_first 1 b _) _ (ap (λ (ks : List Act). beside_all T ks (fresh_line T.n)) all);
}
  where
    all : calls (enough (events_from t 0 m)) T (free 0) (events_from t 0 m) (fresh_line T.n)
        ≡ calls (enough (events_from t 0 m)) T (free 0) (left t m 0) (fresh_line T.n)
    all = ap (λ (k : ℕ). calls (enough (events_from t 0 m)) T (free 0) (events_from t 0 k) (fresh_line T.n)) (sym (sub-zero m))
