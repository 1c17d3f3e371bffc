-- The account: what each call adds and takes, flow by flow and of all flows, and along any calls.
use mathlib.Core.Path.{◌≡◌, refl, ap, sym, subst, subst⁻¹, ◌∙◌}
use mathlib.Core.Bool.{Bool, true, false, cond, ◌&&◌, false≢true}
use mathlib.Core.List.{List, [], ◌∷◌}
use Prim.Native.Nat.{ℕ, ◌+◌, ◌<◌}
use native.Mathlib.Omega.{arith}
use borrow.Author.Tests.{eq-eqb, ne_eqb, leb-false}
use lib.Dec.{ltb, leb, eqb}
use lib.ListN.{take}
use Rattle.drr.specs.declared.Table.{Table}
use Rattle.drr.specs.declared.State.{State}
use Rattle.drr.specs.Limits.{most_waiting}
use Rattle.drr.specs.State.{Line, maximum_of, waiting_of, row_of, lengths_in, bytes_of, bytes_waiting, line_in}
use Rattle.drr.specs.State.{state_from, fresh_line, fresh_state}
use Rattle.drr.specs.Facts.{Sound, SoundState}
use Rattle.drr.specs.Answers.{Answer, flow_in, length_in, Outcome}
use Rattle.drr.specs.Arrival.{arrival_of}
use Rattle.drr.specs.Pick.{Looks, Picks}
use Rattle.drr.specs.Pick.Looks.{idles, sends, passes}
use Rattle.drr.specs.Pick.Picks.{goes_on, closes, starts}
use Rattle.drr.specs.Computed.{pick_of}
use Rattle.drr.specs.Setup.{setup_table, setup_reply}
use Rattle.drr.specs.Figures.{total}
use Rattle.drr.specs.Floor.{Call, arrives, picks, after_calls, call_of, line_after, given_in, added_to}
use Rattle.drr.specs.Account.{just_flow, any_flow, accepted_in, bytes_accepted, length_to, bytes_given}
use Rattle.drr.specs.Account.{bytes_waiting_in, all_bytes_waiting, Balanced, Account, AccountOfAll, FreshAccount, FreshAccountOfAll}
use Rattle.drr.proofs.Bools.{by_test, apart}
use Rattle.drr.proofs.Lengths.{bytes_append}
use Rattle.drr.proofs.Steps.{found_in, place_in}
use Rattle.drr.proofs.Sums.{total_le, total_add, total_none, total_one}
use Rattle.drr.proofs.One.{pick_is}
use Rattle.drr.proofs.States.{line_back, state_back}
use Rattle.drr.proofs.Tables.{zero_at}
use Rattle.drr.proofs.Calls.{whole_sound, setup_keeps}
use Rattle.drr.proofs.Demand3.{answers_of, call_keeps, calls_keep, same}
use Rattle.drr.proofs.Rows.{pick_takes, arrival_adds}

-- ---- one call, for flow i: first in, first out, in bytes
one_length : (b : Bool) (x : ℕ) → bytes_of (cond b (x ∷ []) []) ≡ cond b x 0
one_length true x = omega arith
one_length false x = refl

-- an arrival tells of no packet sent, and one that is not refused is for a flow of the table
arrival_told_lem : (T : Table) (l : Line) (f len : ℕ) →
    ((arrival_of T l f len).answer.sends ≡ false) × (eqb (arrival_of T l f len).answer.refusal 0 ≡ true → f < T.n)
unfolding arrival_of
arrival_told_lem T l f len =
    by_test P (leb T.n f) (λ _. refused) (λ a. by_test P (eqb len 0) (λ _. refused) (λ _.
    by_test P (ltb (maximum_of T f) len) (λ _. refused)
    (λ _. by_test P (leb most_waiting (waiting_of l f)) (λ _. refused) (λ _. (refl, λ _. leb-false T.n f a)))))
  where
    P : Outcome → Type 0
    P o = (o.answer.sends ≡ false) × (eqb o.answer.refusal 0 ≡ true → f < T.n)

    refused : (false ≡ false) × (false ≡ true → f < T.n)
    refused = (refl, λ p. absurd (false≢true p))

-- a packet is sent of a flow of the table
abbrev InTable : Table → Answer → Type 0
InTable T a = a.sends ≡ true → flow_in a < T.n

looks_in : {T : Table} {v : ℕ} {l : Line} {a : Answer} {t : Line} → Looks T v l a t → InTable T a
looks_in (idles e) p = absurd (false≢true p)
looks_in {T} (sends {l = l} {f = f} e enough) _ = (found_in T l f e).0
looks_in (passes e short r) p = looks_in r p

picks_in : {T : Table} {l : Line} {a : Answer} {t : Line} → Picks T l a t → Sound T l → InTable T a
picks_in {T} (goes_on {l = l} on r) ok _ = place_in T l ok on
picks_in (closes on stuck r) ok p = looks_in r p
picks_in (starts off r) ok p = looks_in r p

abbrev Step : Table → (ℕ → Bool) → (Line → ℕ) → Line → Call → Type 0
Step T these waiting l c =
    waiting l + accepted_in these c (call_of T l c).answer ≡ length_to these (call_of T l c).answer + waiting (call_of T l c).line

flow_step : (T : Table) (i : ℕ) → i < T.n → (l : Line) → Sound T l → (c : Call) → Step T (just_flow i) (λ m. bytes_waiting m i) l c
flow_step T i i<n l ok (arrives f len) =
    let o = arrival_of T l f len in
    let told = added_to o.answer.refusal f len i in
    let e = ap bytes_of (arrival_adds T i i<n l ok f len) ∙ bytes_append (lengths_in l i) told
    ∙ ap (λ (k : ℕ). bytes_waiting l i + k) (one_length (eqb o.answer.refusal 0 && eqb f i) len) in
    rw (arrival_told_lem T l f len).0 (omega (arith, e))
flow_step T i i<n l ok picks =
    let o = pick_of T l in
    let e = ap bytes_of (pick_takes T i i<n l ok) ∙ bytes_append (given_in o.answer i) (lengths_in o.line i)
    ∙ ap (λ (k : ℕ). k + bytes_waiting o.line i) (one_length (o.answer.sends && eqb (flow_in o.answer) i) (length_in o.answer)) in
    omega (arith, e)

-- ---- .. and for all flows: of what one flow is given or gives, all others have nothing
total_same : (n : ℕ) (f g : ℕ → ℕ) → ((j : ℕ) → j < n → f j ≡ g j) → total n f ≡ total n g
total_same n f g h =
    omega (arith, total_le n f g (λ j l. omega (arith, h j l)), total_le n g f (λ j l. omega (arith, h j l)))

of_one : (n f x : ℕ) (b : Bool) → (b ≡ true → f < n) → total n (λ i. cond (b && just_flow i f) x 0) ≡ cond (b && any_flow f) x 0
of_one n f x true h =
    total_one n (λ i. cond (just_flow i f) x 0) f (h refl) (λ j ne. rw (ne_eqb f j (λ e. ne (sym e))) refl) ∙ rw (eq-eqb f f refl) refl
of_one n f x false h = total_none n

accepted_of_one : (T : Table) (l : Line) (c : Call) →
    total T.n (λ i. accepted_in (just_flow i) c (call_of T l c).answer) ≡ accepted_in any_flow c (call_of T l c).answer
accepted_of_one T l (arrives f len) =
    of_one T.n f len (eqb (arrival_of T l f len).answer.refusal 0) (arrival_told_lem T l f len).1
accepted_of_one T l picks = total_none T.n

sent_of_one : (T : Table) (l : Line) → Sound T l → (c : Call) →
    total T.n (λ i. length_to (just_flow i) (call_of T l c).answer) ≡ length_to any_flow (call_of T l c).answer
sent_of_one T l ok (arrives f len) =
    let a = (arrival_of T l f len).answer in
    of_one T.n (flow_in a) (length_in a) a.sends (λ p. absurd (apart p (arrival_told_lem T l f len).0))
sent_of_one T l ok picks =
    let a = (pick_of T l).answer in
    of_one T.n (flow_in a) (length_in a) a.sends (picks_in (pick_is T l ok) ok)

all_step : (T : Table) (l : Line) → Sound T l → (c : Call) → Step T any_flow (λ m. total T.n (bytes_waiting m)) l c
all_step T l ok c =
    let n = T.n in
    let a = (call_of T l c).answer in
    let m = (call_of T l c).line in
    let e = total_same n (λ i. bytes_waiting l i + accepted_in (just_flow i) c a) (λ i. length_to (just_flow i) a + bytes_waiting m i)
    (λ i i<n. flow_step T i i<n l ok c) in
    omega (
      arith,
      e,
      total_add n (bytes_waiting l) (λ i. accepted_in (just_flow i) c a),
      total_add n (λ i. length_to (just_flow i) a) (bytes_waiting m),
      accepted_of_one T l c,
      sent_of_one T l ok c,
    )

-- ---- along any calls, for an account that is even over each
module _ (T : Table) (these : ℕ → Bool) (held : Line → ℕ) (step : (l : Line) → Sound T l → (c : Call) → Step T these held l c) where
  calls_even : (l : Line) → Sound T l → (cs : List Call) →
      held l + bytes_accepted these cs (answers_of T l cs) ≡ bytes_given these (answers_of T l cs) + held (line_after T l cs)
  calls_even l ok [] = omega arith
  calls_even l ok (c ∷ cs) = omega (arith, step l ok c, calls_even (call_of T l c).line (call_keeps T l ok c) cs)

  balanced : (waiting : State → ℕ) → ((m : Line) → waiting (state_from T m) ≡ held m) → (l : Line) → Sound T l → (cs : List Call) →
      Balanced these waiting (state_from T l) cs
  balanced waiting is l ok cs =
      let z = same T l ok cs in
      rw (z.after, z.answers, is l, is (line_after T l cs)) (calls_even l ok cs)

pub account : Account
account s ok cs i i<n =
    subst (λ (t : State). Balanced (just_flow i) (bytes_waiting_in i) t cs) (state_back s.table s.line)
    (balanced s.table (just_flow i) (λ m. bytes_waiting m i) (flow_step s.table i i<n) (bytes_waiting_in i)
    (λ m. ap (λ (k : Line). bytes_waiting k i) (line_back s.table m)) (line_in s.line) ok cs)

pub account_of_all : AccountOfAll
account_of_all s ok cs =
    let T = s.table in
    subst (λ (t : State). Balanced any_flow all_bytes_waiting t cs) (state_back T s.line)
    (balanced T any_flow (λ m. total T.n (bytes_waiting m)) (all_step T) all_bytes_waiting
    (λ m. ap (λ (k : Line). total T.n (bytes_waiting k)) (line_back T m)) (line_in s.line) ok cs)

-- ---- what calls leave: a sound state, with the table that it had
pub calls_sound : (s : State) → SoundState s → (cs : List Call) → SoundState (after_calls s cs) × ((after_calls s cs).table ≡ s.table)
calls_sound s ok cs =
    let T = s.table in
    let l = line_in s.line in
    subst (λ (t : State). SoundState (after_calls t cs) × ((after_calls t cs).table ≡ t.table)) (state_back T s.line)
    (subst⁻¹ (λ (t : State). SoundState t × (t.table ≡ T)) (same T l ok cs).after
    (whole_sound T (line_after T l cs) (calls_keep T l ok cs), refl))

-- ---- from fresh, where nothing waits
fresh_none : (T : Table) (i : ℕ) → bytes_waiting_in i (fresh_state T) ≡ 0
fresh_none T i =
    ap (λ (k : Line). bytes_waiting k i) (line_back T (fresh_line T.n))
    ∙ ap (λ (c : ℕ). bytes_of (take c (row_of (fresh_line T.n) i))) (zero_at 16 i)

pub fresh_account : FreshAccount
fresh_account xs terms _ cs i i<n =
    let s = (setup_reply xs terms).state in
    omega (arith, account s (setup_keeps xs terms) cs i i<n, fresh_none (setup_table xs terms) i)

pub fresh_account_of_all : FreshAccountOfAll
fresh_account_of_all xs terms _ cs =
    let s = (setup_reply xs terms).state in
    let n = s.table.n in
    let none = total_same n (λ i. bytes_waiting_in i s) (λ i. 0) (λ i _. fresh_none (setup_table xs terms) i) ∙ total_none n in
    omega (arith, account_of_all s (setup_keeps xs terms) cs, none)
