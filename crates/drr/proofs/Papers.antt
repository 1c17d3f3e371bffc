-- The paper's answers tell the answers apart: each has an inverse.
use mathlib.Core.Path.{◌≡◌, refl, sym, ap, ◌∙◌}
use mathlib.Core.Bool.{false, cond, true≢false}
use Prim.Native.Nat.{ℕ}
use Rattle.std.specs.Prelude.{Result, Ok, Err, IfOk}
use Rattle.std.specs.Result.{result_unwrap_or}
use lib.Dec.{eqb}
use lib.ListN.{get_or}
use Rattle.drr.specs.declared.Refusal.{Refusal}
use Rattle.drr.specs.declared.Refusal.TheVariants.{UnknownFlow, NoLength, OverMaximum, RowFull}
use Rattle.drr.specs.declared.Refusal.TheVariants.{FlowCount, QuantumRange, MaximumRange, NotSound}
use Rattle.drr.specs.declared.Refusal.TheVariants.{FileLength, OverheadRange, EventCount, TablePlace, TickOrder, ListShort}
use Rattle.drr.specs.declared.PickAnswer.{PickAnswer}
use Rattle.drr.specs.declared.PickAnswer.TheVariants as picks
use Rattle.drr.specs.declared.Refused.{Refused}
use Rattle.drr.specs.declared.Answered.{Answered}
use Rattle.drr.specs.Answers.{number_of, Answer, refused_at, idle, sent_as, pick_paper, arrival_paper, verdict_paper, Reply, reply}

pub refusal_of : ℕ → Refusal
refusal_of k =
    cond (eqb k 1) UnknownFlow
    (cond (eqb k 2) NoLength
    (cond (eqb k 3) OverMaximum
    (cond (eqb k 4) RowFull
    (cond (eqb k 5) FlowCount
    (cond (eqb k 6) QuantumRange
    (cond (eqb k 7) MaximumRange
    (cond (eqb k 8) NotSound
    (cond (eqb k 9) FileLength
    (cond (eqb k 10) OverheadRange
    (cond (eqb k 11) EventCount
    (cond (eqb k 12) TablePlace
    (cond (eqb k 13) TickOrder
    ListShort))))))))))))

-- a refusal's number tells which it is, and is never 0
pub record Named (why : Refusal) : Type 0 where
  pub back : refusal_of (number_of why) ≡ why
  pub some : eqb (number_of why) 0 ≡ false

pub named : (why : Refusal) → Named why
unfolding refusal_of
named UnknownFlow = record { back = refl; some = refl }
named NoLength = record { back = refl; some = refl }
named OverMaximum = record { back = refl; some = refl }
named RowFull = record { back = refl; some = refl }
named FlowCount = record { back = refl; some = refl }
named QuantumRange = record { back = refl; some = refl }
named MaximumRange = record { back = refl; some = refl }
named NotSound = record { back = refl; some = refl }
named FileLength = record { back = refl; some = refl }
named OverheadRange = record { back = refl; some = refl }
named EventCount = record { back = refl; some = refl }
named TablePlace = record { back = refl; some = refl }
named TickOrder = record { back = refl; some = refl }
named ListShort = record { back = refl; some = refl }

pub number_some : (why : Refusal) → eqb (number_of why) 0 ≡ false
number_some why = (named why).some

-- the refusal that a paper answer tells
fault_from : Answer → Refused
fault_from a = record { why = refusal_of a.refusal; place = get_or a.numbers 0 0 }

fault_back : (f : Refused) → fault_from (refused_at (number_of f.why) f.place) ≡ f
unfolding fault_from
fault_back f = rw (named f.why).back

-- the result that a paper answer and what is made beside it make
pub verdict_from : {A : Type 0} → A → Answer → Result A Refused
verdict_from made a = cond (eqb a.refusal 0) (Ok made) (Err (fault_from a))

pub verdict_back : {A : Type 0} (none : A) (a : Result A Refused) → verdict_from (result_unwrap_or a none) (verdict_paper a) ≡ a
unfolding verdict_from
verdict_back none (Ok made) = refl
verdict_back none (Err fault) = rw (named fault.why).some (ap Err (fault_back fault))

arrival_from : Answer → Result (Unit {0}) Refusal
arrival_from a = cond (eqb a.refusal 0) (Ok tt) (Err (refusal_of a.refusal))

arrival_back : (a : Result (Unit {0}) Refusal) → arrival_from (arrival_paper a) ≡ a
unfolding arrival_from
arrival_back (Ok done) = refl
arrival_back (Err why) = rw ((named why).some, (named why).back)

pick_from : Answer → PickAnswer
pick_from a =
    cond (eqb a.refusal 0)
    (cond a.sends (picks.Sent (nth 0) (nth 1) (nth 2) (nth 3)) picks.Idle)
    (picks.Refused (refusal_of a.refusal))
  where
    nth : ℕ → ℕ
    nth k = get_or a.numbers k 0

pick_back : (a : PickAnswer) → pick_from (pick_paper a) ≡ a
unfolding pick_from
pick_back picks.Idle = refl
pick_back (picks.Sent flow length deficit visits) = refl
pick_back (picks.Refused why) = rw ((named why).some, (named why).back)

-- two values with one paper answer are one value
pub one_value : {A : Type 0} (paper : A → Answer) (from : Answer → A) → ((a : A) → from (paper a) ≡ a) →
    (a b : A) → paper a ≡ paper b → a ≡ b
one_value paper from back a b e = sym (back a) ∙ ap from e ∙ back b

pub pick_one : (a b : PickAnswer) → pick_paper a ≡ pick_paper b → a ≡ b
pick_one = one_value pick_paper pick_from pick_back

pub arrival_one : (a b : Result (Unit {0}) Refusal) → arrival_paper a ≡ arrival_paper b → a ≡ b
arrival_one = one_value arrival_paper arrival_from arrival_back

-- .. and two results that make the same, the same table for instance, are one
pub result_one : {A : Type 0} (none : A) (a b : Result A Refused) →
    verdict_paper a ≡ verdict_paper b → result_unwrap_or a none ≡ result_unwrap_or b none → a ≡ b
result_one none a b e made = sym (verdict_back none a) ∙ (λ i. verdict_from (made i) (e i)) ∙ verdict_back none b

-- .. or of which the same facts hold, where these settle what is made
pub result_settled : {A : Type 0} (P : A → Type 0) → ((x y : A) → P x → P y → x ≡ y) → (a b : Result A Refused) →
    verdict_paper a ≡ verdict_paper b → IfOk a P → IfOk b P → a ≡ b
result_settled P one (Ok x) (Ok y) e p q = ap Ok (one x y p q)
result_settled P one (Ok x) (Err f) e p q = absurd (true≢false (ap (λ (a : Answer). eqb a.refusal 0) e ∙ number_some f.why))
result_settled P one (Err f) (Ok y) e p q = absurd (true≢false (ap (λ (a : Answer). eqb a.refusal 0) (sym e) ∙ number_some f.why))
result_settled P one (Err f) (Err g) e p q = ap Err (sym (fault_back f) ∙ ap fault_from e ∙ fault_back g)

pub verdict_one : (a b : Result (Unit {0}) Refused) → verdict_paper a ≡ verdict_paper b → a ≡ b
verdict_one a b e = result_one tt a b e refl

-- no second answer or state beside a paper answer and a state
pub answered_one : {A : Type 0} (paper : A → Answer) → ((a b : A) → paper a ≡ paper b → a ≡ b) → (w : Reply) (r t : Answered A) →
    reply (paper r.answer) r.state ≡ w → reply (paper t.answer) t.state ≡ w → r ≡ t
answered_one paper one w r t p q =
    let e = p ∙ sym q in
    let a = one r.answer t.answer (ap (λ (z : Reply). z.answer) e) in
    λ i. record { answer = a i; state = (e i).state }

-- a sending is not idle
pub sent_not_idle : {f length d v : ℕ} → sent_as f length d v ≡ idle → ⊥
sent_not_idle e = true≢false (ap (λ (a : Answer). a.sends) e)
