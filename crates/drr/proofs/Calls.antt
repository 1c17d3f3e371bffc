-- Calls on a State: what they keep, what they hand back.
use mathlib.Core.Path.{◌≡◌, refl, sym, ap, subst⁻¹, ◌∙◌}
use mathlib.Core.Bool.{Bool, true, false}
use mathlib.Core.List.{List}
use mathlib.Core.Logic.{⊎_elim}
use Prim.Native.Nat.{ℕ, zero, suc, ◌+◌, ◌≤◌, ◌<◌}
use native.Mathlib.Omega.{arith}
use borrow.Author.Tests.{eqb-true, lt-ltb}
use lib.Dec.{leb, eqb}
use Rattle.std.specs.Prelude.{Option, Some, None}
use Rattle.drr.specs.declared.Table.{Table}
use Rattle.drr.specs.declared.State.{State}
use Rattle.drr.specs.declared.FlowRecord.{FlowRecord}
use Rattle.drr.specs.declared.Terms.{Terms}
use Rattle.drr.specs.Limits.{most_overhead, most_charges}
use Rattle.drr.specs.State.{Line, deficit_of, oldest_charge, line_in, state_from, fresh_line, fresh_state, empty_table}
use Rattle.drr.specs.Sound.{sound_state}
use Rattle.drr.specs.Facts.{Ranged, Sound, SoundState, ShapedState}
use Rattle.drr.specs.Answers.{Answer, refused_at, idle, visits_in, Outcome, Reply, reply, pick_refused, guarded}
use Rattle.drr.specs.Pick.{next, open_at, closed, emptied, Looks, Picks}
use Rattle.drr.specs.Pick.Looks.{idles, sends, passes}
use Rattle.drr.specs.Pick.Picks.{goes_on, closes, starts}
use Rattle.drr.specs.Computed.{serve, turn, look_for, enough, carry_on, readyb, pick_at, pick_of, pick_reply}
use Rattle.drr.specs.Setup.{setup_answer, setup_table, setup_reply}
use Rattle.drr.proofs.Bools.{by_test, dec}
use Rattle.drr.proofs.Facts.{sound_is, of_sound}
use Rattle.drr.proofs.Search.{first_empty}
use Rattle.drr.proofs.Steps.{visit_passes, on_ends}
use Rattle.drr.proofs.Sums.{over_flows}
use Rattle.drr.proofs.Visits.{sum_low, grows}
use Rattle.drr.proofs.One.{pick_is, pick_only}
use Rattle.drr.proofs.States.{state_back, line_back, guarded_sound, guarded_not}
use Rattle.drr.proofs.Tables.{zero_at, fresh_sound, setup_ranged}
use Rattle.drr.proofs.Keeps.{pick_keeps, idle_again}

-- ---- the state made of a sound line is sound
pub whole_sound : (T : Table) (l : Line) → Sound T l → SoundState (state_from T l)
whole_sound T l ok = subst⁻¹ (Sound T) (line_back T l) ok

pub fresh_state_sound : {T : Table} → Ranged T → SoundState (fresh_state T)
fresh_state_sound {T} r = whole_sound T (fresh_line T.n) (fresh_sound r)

pub setup_keeps : (xs : List FlowRecord) (terms : Terms) → SoundState (setup_reply xs terms).state
setup_keeps xs terms = fresh_state_sound (setup_ranged xs terms)

pub setup_refused : (xs : List FlowRecord) (terms : Terms) → ((setup_reply xs terms).answer.refusal ≡ 0 → ⊥) →
    (setup_reply xs terms).state ≡ empty_table
unfolding setup_table
setup_refused xs terms some =
    by_test (λ (T : Table). fresh_state T ≡ empty_table) (eqb (setup_answer xs terms).refusal 0)
    (λ e. absurd (some (eqb-true (setup_answer xs terms).refusal 0 e))) (λ _. refl)

pub setup_over : (xs : List FlowRecord) (terms : Terms) → most_overhead < terms.overhead → (setup_reply xs terms).answer ≡ refused_at 10 0
unfolding setup_answer
setup_over xs terms over = rw (lt-ltb most_overhead terms.overhead over)

-- ---- a call that gives the outcome o on the state's line
module _ (s : State) (unsound : Answer) (o : Outcome) where
  pub call_sound : SoundState s → Sound s.table o.line → SoundState (guarded s unsound o).state
  call_sound ok next =
      subst⁻¹ (λ (z : Reply). SoundState z.state) (guarded_sound s unsound o (of_sound s.table (line_in s.line) ok))
      (whole_sound s.table o.line next)

  pub call_hands_back : ((o.answer.refusal ≡ 0 → ⊥) → o.line ≡ line_in s.line) → ((guarded s unsound o).answer.refusal ≡ 0 → ⊥) →
      (guarded s unsound o).state ≡ s
  unfolding guarded
  call_hands_back same =
      by_test (λ (z : Reply). (z.answer.refusal ≡ 0 → ⊥) → z.state ≡ s) (sound_state s)
      (λ _ no. ap (state_from s.table) (same no) ∙ state_back s.table s.line) (λ _ _. refl)

-- ---- a pick on a line is never refused
abbrev Fine : Outcome → Type 0
Fine o = o.answer.refusal ≡ 0

serve_fine : (T : Table) (b : Bool) (v : ℕ) (l : Line) (f : ℕ) (goto2 : Line → Outcome) → ((t : Line) → Fine (goto2 t)) →
    Fine (serve T b v l f goto2)
serve_fine T true v l f goto2 h = refl
serve_fine T false v l f goto2 h = h (closed l)

turn_fine : (T : Table) (v : ℕ) (l : Line) (o : Option ℕ) (goto2 : Line → Outcome) → ((t : Line) → Fine (goto2 t)) → Fine (turn T v l o goto2)
turn_fine T v l None goto2 h = refl
turn_fine T v l (Some f) goto2 h = serve_fine T (leb (oldest_charge T l f) (deficit_of (open_at T l f) f)) (v + 1) (open_at T l f) f goto2 h

look_fine : (T : Table) (k v : ℕ) (l : Line) → Fine (look_for T k v l)
unfolding look_for
look_fine T zero v l = refl
look_fine T (suc k) v l = turn_fine T v l (next T l) (look_for T k (v + 1)) (look_fine T k (v + 1))

pub pick_fine : (T : Table) (l : Line) → Fine (pick_of T l)
pick_fine T l = at_open l.opened
  where
    on_test : (b : Bool) → Fine (carry_on T b l)
    on_test true = refl
    on_test false = look_fine T enough 0 (closed (emptied l))

    at_open : (b : Bool) → Fine (pick_at T b l)
    at_open true = on_test (readyb T l l.place)
    at_open false = look_fine T enough 0 l

-- ---- the visits that a pick opens: each raises the sum of the deficits, which has a bound
looks_visits : {T : Table} {v : ℕ} {l : Line} {a : Answer} {t : Line} → Looks T v l a t → Sound T l → l.opened ≡ false →
    v ≤ over_flows l.deficits → visits_in a ≤ most_charges
looks_visits (idles e) ok off h = omega arith
looks_visits {T} (sends {l = l} {f = f} e enough) ok off h = omega (arith, sum_low T l ok off)
looks_visits {T} (passes {l = l} {f = f} e short r) ok off h =
    looks_visits r (visit_passes T l ok f e off short) refl (omega (arith, grows T l ok f e))

picks_visits : {T : Table} {l : Line} {a : Answer} {t : Line} → Picks T l a t → Sound T l → visits_in a ≤ most_charges
picks_visits (goes_on on r) ok = omega arith
picks_visits {T} (closes {l = l} on stuck r) ok = looks_visits r (on_ends T l ok on stuck) refl (omega arith)
picks_visits (starts off r) ok = looks_visits r ok off (omega arith)

pub pick_visits : (T : Table) (l : Line) → Sound T l → visits_in (pick_of T l).answer ≤ most_charges
pick_visits T l ok = picks_visits (pick_is T l ok) ok

-- ---- a pick from a fresh state
pub fresh_idle : {T : Table} → Ranged T → pick_reply (fresh_state T) ≡ reply idle (fresh_state T)
fresh_idle {T} r =
    let l = fresh_line T.n in
    let none = first_empty T.n l.counts T.n l.place (zero_at 16) in
    guarded_sound (fresh_state T) (pick_refused 8) _ (of_sound T _ (fresh_state_sound r))
    ∙ ap (λ (k : Line). reply (pick_of T k).answer (state_from T (pick_of T k).line)) (line_back T l)
    ∙ ap (λ (o : Outcome). reply o.answer (state_from T o.line))
    (sym (pick_only T l (fresh_sound r) idle l (starts refl (idles none))))

-- ---- a second idle pick
pub idle_still : (s : State) → ShapedState s → (pick_reply s).answer ≡ idle →
    pick_reply (pick_reply s).state ≡ reply idle (pick_reply s).state
idle_still s shape is = ⊎_elim
    (λ e. still (sound_is T l shape e) (guarded_sound s (pick_refused 8) (pick_of T l) e))
    (λ e. let z = sym is ∙ ap (λ (z : Reply). z.answer) (guarded_not s (pick_refused 8) (pick_of T l) e) in
    absurd (let y = ap (λ (a : Answer). a.refusal) z in omega arith))
    (dec (sound_state s))
  where
    T : Table
    T = s.table

    l : Line
    l = line_in s.line

    still : Sound T l → pick_reply s ≡ reply (pick_of T l).answer (state_from T (pick_of T l).line) →
        pick_reply (pick_reply s).state ≡ reply idle (pick_reply s).state
    still ok e =
        let m = (pick_of T l).line in
        let idled : (pick_of T l).answer ≡ idle = (sym (ap (λ (z : Reply). z.answer) e) ∙ is) in
        let again : pick_reply (state_from T m) ≡ reply idle (state_from T m) =
        (guarded_sound (state_from T m) (pick_refused 8) _ (of_sound T _ (whole_sound T m (pick_keeps T l ok)))
        ∙ ap (λ (k : Line). reply (pick_of T k).answer (state_from T (pick_of T k).line)) (line_back T m)
        ∙ ap (λ (o : Outcome). reply o.answer (state_from T o.line)) (idle_again T l ok idled)) in
        subst⁻¹ (λ (t : State). pick_reply t ≡ reply idle t) (ap (λ (z : Reply). z.state) e) again
