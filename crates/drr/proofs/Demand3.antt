-- The floor along any calls: from lines, in the sharp form, to states, as demand 3 says it.
use mathlib.Core.Path.{◌≡◌, refl, ap, subst, subst⁻¹, ◌∙◌}
use mathlib.Core.Logic.{◌≢◌, ⊎_elim}
use mathlib.Core.Bool.{true}
use mathlib.Core.List.{List, [], ◌∷◌}
use Prim.Native.Nat.{ℕ, ◌+◌, ◌*◌, ◌-◌, ◌≤◌, ◌<◌}
use native.Mathlib.Omega.{arith}
use borrow.Author.Tests.{leb-false}
use lib.Dec.{leb, ltb, eqb}
use Rattle.drr.specs.Limits.{most_waiting}
use Rattle.drr.specs.declared.Table.{Table}
use Rattle.drr.specs.declared.State.{State}
use Rattle.drr.specs.State.{Line, quantum_of, maximum_of, maximum_charge, waiting_of, line_in, state_from}
use Rattle.drr.specs.Sound.{sound_state}
use Rattle.drr.specs.Facts.{Sound, SoundState}
use Rattle.drr.specs.Answers.{Answer, Outcome, outcome, Reply, reply, arrival_refused, pick_refused}
use Rattle.drr.specs.Arrival.{arrival_of}
use Rattle.drr.specs.Computed.{pick_of}
use Rattle.drr.specs.Figures.{total, all_quanta, owed}
use Rattle.drr.specs.Floor.{Call, arrives, picks, reply_to, after_calls, call_of, line_after, sent_in, bytes_in, bytes_sent, flow_sent}
use Rattle.drr.specs.Floor.{answers_to, WaitsAtPicks, Floor}
use Rattle.drr.proofs.Bools.{by_test}
use Rattle.drr.proofs.Facts.{of_sound}
use Rattle.drr.proofs.One.{pick_is}
use Rattle.drr.proofs.Keeps.{arrival_keeps, pick_keeps}
use Rattle.drr.proofs.States.{line_back, state_back, guarded_sound}
use Rattle.drr.proofs.Calls.{whole_sound}
use Rattle.drr.proofs.Figures.{quanta_some, owed_at_most}
use Rattle.drr.proofs.Sums.{total_none, total_add}
use Rattle.drr.proofs.Stretches.{View, Stretch, start, follow, floor, pairwise, lag_with, lag_mono}
use Rattle.drr.proofs.Order.{Order}
use Rattle.drr.proofs.Round.{Placed, cyclic}
use Rattle.drr.proofs.Bounds.{sound_bounded, fair}
use Rattle.drr.proofs.Service.{view, picks_serve, booking}

-- ---- calls on a line
abbrev pub answers_of : Table → Line → List Call → List Answer
answers_of T l [] = []
answers_of T l (c ∷ cs) = (call_of T l c).answer ∷ answers_of T (call_of T l c).line cs

abbrev pub line_bytes : Table → Line → List Call → ℕ
line_bytes T l [] = 0
line_bytes T l (c ∷ cs) = bytes_in T (call_of T l c).answer + line_bytes T (call_of T l c).line cs

abbrev pub line_sent : Table → Line → List Call → ℕ → ℕ
line_sent T l [] i = 0
line_sent T l (c ∷ cs) i = sent_in T (call_of T l c).answer i + line_sent T (call_of T l c).line cs i

abbrev pub LineWaits : Table → Line → List Call → ℕ → Type 0
LineWaits T l [] i = Unit {0}
LineWaits T l (arrives flow length ∷ cs) i = LineWaits T (call_of T l (arrives flow length)).line cs i
LineWaits T l (picks ∷ cs) i = (0 < waiting_of l i) × LineWaits T (call_of T l picks).line cs i

pub call_keeps : (T : Table) (l : Line) → Sound T l → (c : Call) → Sound T (call_of T l c).line
call_keeps T l ok (arrives flow length) = arrival_keeps T l ok flow length
call_keeps T l ok picks = pick_keeps T l ok

pub calls_keep : (T : Table) (l : Line) → Sound T l → (cs : List Call) → Sound T (line_after T l cs)
calls_keep T l ok [] = ok
calls_keep T l ok (c ∷ cs) = calls_keep T (call_of T l c).line (call_keeps T l ok c) cs

-- ---- a stretch of calls is a stretch to flow i, under any lawful order
module _ (T : Table) {Fit : Line → Type 0} {rank : Line → ℕ → ℕ} (O : Order T Fit rank) (i : ℕ) (i<n : i < T.n) where
  abbrev seen_by : Line → View
  seen_by l = view T O i i<n l

  record Step (l : Line) (o : Outcome) : Type 0 where
    run : Stretch T.n (quantum_of T) i (seen_by l) (sent_in T o.answer) (seen_by o.line)
    whole : total T.n (sent_in T o.answer) ≡ bytes_in T o.answer
    fit : Fit o.line

  arrival_steps : (l : Line) → Fit l → (f len : ℕ) → Step l (arrival_of T l f len)
  unfolding arrival_of
  arrival_steps l fit f len =
      by_test (Step l) (leb T.n f) (λ _. still) (λ a. by_test (Step l) (eqb len 0) (λ _. still) (λ b.
      by_test (Step l) (ltb (maximum_of T f) len) (λ _. still) (λ c. by_test (Step l) (leb most_waiting (waiting_of l f)) (λ _. still) (λ d.
      record {
        run = booking T O i i<n l fit f len (leb-false T.n f a);
        whole = total_none T.n;
        fit = O.fit_put l fit f len
            (leb-false T.n f a);
      }))))
    where
      still : {k : ℕ} → Step l (outcome (arrival_refused k) l)
      still = record { run = start T.n (quantum_of T) i (seen_by l); whole = total_none T.n; fit = fit }

  pick_steps : (l : Line) → Sound T l → Fit l → 0 < waiting_of l i → Step l (pick_of T l)
  pick_steps l ok fit w = let s = picks_serve T O i i<n (pick_is T l ok) ok fit in
      record { run = s.run w; whole = s.whole; fit = s.fit }

  pub record Ran (l : Line) (cs : List Call) : Type 0 where
    pub run : Stretch T.n (quantum_of T) i (seen_by l) (line_sent T l cs) (seen_by (line_after T l cs))
    pub whole : total T.n (line_sent T l cs) ≡ line_bytes T l cs
    pub fit : Fit (line_after T l cs)

  then_ran : (l : Line) (c : Call) (cs : List Call) → Step l (call_of T l c) → Ran (call_of T l c).line cs → Ran l (c ∷ cs)
  then_ran l c cs a b = record {
    run = follow a.run b.run;
    whole = total_add T.n (sent_in T (call_of T l c).answer) (line_sent T (call_of T l c).line cs) ∙ omega (arith, a.whole, b.whole);
    fit = b.fit;
  }

  pub running : (l : Line) → Sound T l → Fit l → (cs : List Call) → LineWaits T l cs i → Ran l cs
  running l ok fit [] w = record { run = start T.n (quantum_of T) i (seen_by l); whole = total_none T.n; fit = fit }
  running l ok fit (arrives f len ∷ cs) w =
      let a = arrival_steps l fit f len in
      then_ran l (arrives f len) cs a (running (arrival_of T l f len).line (arrival_keeps T l ok f len) a.fit cs w)
  running l ok fit (picks ∷ cs) w =
      let a = pick_steps l ok fit w.0 in
      then_ran l picks cs a (running (pick_of T l).line (pick_keeps T l ok) a.fit cs w.1)

  module _ (l : Line) (ok : Sound T l) (fit : Fit l) (cs : List Call) (w : LineWaits T l cs i) where
    ran : Ran l cs
    ran = running l ok fit cs w

    -- the floor with one taken off each maximum charge
    pub floor_sharp : quantum_of T i * line_bytes T l cs
        ≤ all_quanta T * line_sent T l cs i + lag_with T.n (quantum_of T) (λ j. maximum_charge T j - 1) i
    floor_sharp =
        rw (← ran.whole)
        (floor i<n (fair T O i i<n l fit _ (λ j k. omega (arith, sound_bounded T l ok j k))) ran.run
        (fair T O i i<n (line_after T l cs) ran.fit _
        (λ j k. omega (arith, sound_bounded T (line_after T l cs) (calls_keep T l ok cs) j k))))

    -- between i and another flow j
    pub pairwise_sharp : (j : ℕ) → j < T.n → j ≢ i →
        quantum_of T i * line_sent T l cs j
        ≤ quantum_of T j * (line_sent T l cs i + (quantum_of T i + (maximum_charge T i - 1))) + quantum_of T i * (maximum_charge T j - 1)
    pairwise_sharp =
        pairwise i<n (fair T O i i<n l fit _ (λ j k. omega (arith, sound_bounded T l ok j k))) ran.run
        (fair T O i i<n (line_after T l cs) ran.fit _
        (λ j k. omega (arith, sound_bounded T (line_after T l cs) (calls_keep T l ok cs) j k)))

    -- .. and so with document 01's C
    pub floor_line : owed T i (line_bytes T l cs) ≤ line_sent T l cs i
    floor_line =
        let some : 0 < quantum_of T i = ((ok.flows i (omega (arith, ok.flows_few))).used i<n).quantum_least in
        owed_at_most T i (quanta_some T i i<n some) (line_bytes T l cs) (line_sent T l cs i)
        (omega (
          arith,
          floor_sharp,
          lag_mono T.n (quantum_of T) (λ j. maximum_charge T j - 1) (maximum_charge T) i i<n (λ j k. omega arith),
        ))

-- ---- from lines to states
pub reply_is : (T : Table) (l : Line) → Sound T l → (c : Call) →
    reply_to (state_from T l) c ≡ reply (call_of T l c).answer (state_from T (call_of T l c).line)
reply_is T l ok c = go c
  where
    good : sound_state (state_from T l) ≡ true
    good = of_sound T _ (whole_sound T l ok)

    go : (c : Call) → reply_to (state_from T l) c ≡ reply (call_of T l c).answer (state_from T (call_of T l c).line)
    go (arrives f len) =
        guarded_sound (state_from T l) (arrival_refused 8) _ good
        ∙ ap (λ (k : Line). reply (arrival_of T k f len).answer (state_from T (arrival_of T k f len).line)) (line_back T l)
    go picks = guarded_sound (state_from T l) (pick_refused 8) _ good
        ∙ ap (λ (k : Line). reply (pick_of T k).answer (state_from T (pick_of T k).line)) (line_back T l)

-- the same calls on the state and on its line: what they leave, answer and send, and whether a flow waits at each pick
pub record Same (T : Table) (l : Line) (cs : List Call) : Type 0 where
  pub after : after_calls (state_from T l) cs ≡ state_from T (line_after T l cs)
  pub answers : answers_to (state_from T l) cs ≡ answers_of T l cs
  pub bytes : bytes_sent (state_from T l) cs ≡ line_bytes T l cs
  pub sent : (i : ℕ) → flow_sent (state_from T l) cs i ≡ line_sent T l cs i
  pub waits : (i : ℕ) → WaitsAtPicks (state_from T l) cs i → LineWaits T l cs i

pub same : (T : Table) (l : Line) → Sound T l → (cs : List Call) → Same T l cs
same T l ok [] = record { after = refl; answers = refl; bytes = refl; sent = λ i. refl; waits = λ i w. w }
same T l ok (c ∷ cs) = go c (reply_is T l ok c) (same T (call_of T l c).line (call_keeps T l ok c) cs)
  where
    waits : (c : Call) → reply_to (state_from T l) c ≡ reply (call_of T l c).answer (state_from T (call_of T l c).line) →
        Same T (call_of T l c).line cs →
        (i : ℕ) → WaitsAtPicks (state_from T l) (c ∷ cs) i → LineWaits T l (c ∷ cs) i
    waits (arrives f len) e s i w = s.waits i (subst (λ (z : Reply). WaitsAtPicks z.state cs i) e w)
    waits picks e s i w = (w.0, s.waits i (subst (λ (z : Reply). WaitsAtPicks z.state cs i) e w.1))

    go : (c : Call) → reply_to (state_from T l) c ≡ reply (call_of T l c).answer (state_from T (call_of T l c).line) →
        Same T (call_of T l c).line cs → Same T l (c ∷ cs)
    go c e s = record {
      after = ap (λ (z : Reply). after_calls z.state cs) e ∙ s.after;
      answers = ap (λ (z : Reply). z.answer ∷ answers_to z.state cs) e
          ∙ ap (λ (xs : List Answer). (call_of T l c).answer ∷ xs) s.answers;
      bytes = ap (λ (z : Reply). bytes_in T z.answer + bytes_sent z.state cs) e
          ∙ ap (λ (k : ℕ). bytes_in T (call_of T l c).answer + k) s.bytes;
      sent = λ i. ap (λ (z : Reply). sent_in T z.answer i + flow_sent z.state cs i) e
          ∙ ap (λ (k : ℕ). sent_in T (call_of T l c).answer i + k) (s.sent i);
      waits = waits c e s;
    }

-- ---- demand 3, in document 01's order
pub placed : {T : Table} {l : Line} {i : ℕ} → Sound T l → i < T.n → Placed T l
placed ok i<n = ⊎_elim (λ p. p) (λ q. absurd (omega (arith, q.0))) ok.placed

-- the stretch that follows some calls on the state made of a sound line is one on a sound line
abbrev FloorAt : State → Type 0
FloorAt s =
    (before stretch : List Call) (i : ℕ) → i < s.table.n → WaitsAtPicks (after_calls s before) stretch i →
    owed s.table i (bytes_sent (after_calls s before) stretch) ≤ flow_sent (after_calls s before) stretch i

floor_at : (T : Table) (l : Line) → Sound T l → FloorAt (state_from T l)
floor_at T l ok before stretch i i<n w =
    let m = line_after T l before in
    let ok' = calls_keep T l ok before in
    let a = (same T l ok before).after in
    let z = same T m ok' stretch in
    let w' = z.waits i (subst (λ (t : State). WaitsAtPicks t stretch i) a w) in
    subst⁻¹ (λ (t : State). owed T i (bytes_sent t stretch) ≤ flow_sent t stretch i) a
    (rw (z.bytes, z.sent i) (floor_line T (cyclic T) i i<n m ok' (placed ok' i<n) stretch w'))

pub demand_3 : Floor
demand_3 s ok = subst FloorAt (state_back s.table s.line) (floor_at s.table (line_in s.line) ok)

-- beside it, by the same laws of a stretch: between the waiting flow i and any other
abbrev PairAt : State → Type 0
PairAt s =
    (before stretch : List Call) (i j : ℕ) → i < s.table.n → j < s.table.n → j ≢ i → WaitsAtPicks (after_calls s before) stretch i →
    quantum_of s.table i * flow_sent (after_calls s before) stretch j
    ≤ quantum_of s.table j *
    (flow_sent (after_calls s before) stretch i + (quantum_of s.table i + (maximum_charge s.table i - 1))) + quantum_of s.table i *
    (maximum_charge s.table j - 1)

pair_at : (T : Table) (l : Line) → Sound T l → PairAt (state_from T l)
pair_at T l ok before stretch i j i<n j<n ne w =
    let m = line_after T l before in
    let ok' = calls_keep T l ok before in
    let a = (same T l ok before).after in
    let z = same T m ok' stretch in
    let w' = z.waits i (subst (λ (t : State). WaitsAtPicks t stretch i) a w) in
    subst⁻¹ (λ (t : State). quantum_of T i * flow_sent t stretch j
    ≤ quantum_of T j * (flow_sent t stretch i + (quantum_of T i + (maximum_charge T i - 1))) + quantum_of T i * (maximum_charge T j - 1)) a
    (rw (z.sent i, z.sent j) (pairwise_sharp T (cyclic T) i i<n m ok' (placed ok' i<n) stretch w' j j<n ne))

pub pairs : (s : State) → SoundState s → PairAt s
pairs s ok = subst PairAt (state_back s.table s.line) (pair_at s.table (line_in s.line) ok)
