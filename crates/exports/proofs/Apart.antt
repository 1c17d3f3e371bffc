-- Nothing is lost by the names: what is told tells answers apart. Each has an inverse.
use mathlib.Core.Path.{◌≡◌, refl, sym, ap, ◌∙◌}
use mathlib.Core.Bool.{cond}
use Prim.Native.Nat.{ℕ}
use lib.Dec.{eqb}
use Rattle.std.specs.Prelude.{Result, Ok, Err}
use Rattle.drr.specs.declared.State.{State}
use Rattle.drr.specs.declared.PickAnswer.{PickAnswer}
use Rattle.drr.specs.declared.PickAnswer.TheVariants as picks
use Rattle.drr.specs.declared.Refusal.{Refusal}
use Rattle.drr.specs.declared.Refused.{Refused}
use Rattle.drr.specs.Answers.{pick_paper, arrival_paper, verdict_paper, reply}
use Rattle.drr.proofs.Papers.{refusal_of, named}
use Rattle.figures.specs.Answers.{figure_paper}
use Rattle.exports.specs.declared.SetupResult.{SetupResult}
use Rattle.exports.specs.declared.ArrivalResult.{ArrivalResult}
use Rattle.exports.specs.declared.PickResult.{PickResult}
use Rattle.exports.specs.declared.FigureResult.{FigureResult}
use Rattle.exports.specs.declared.RunResult.{RunResult}
use Rattle.exports.specs.Told.{setup_told, arrival_told, pick_told, figure_told, run_told}

verdict_from : ℕ → ℕ → Result (Unit {0}) Refused
verdict_from refusal place = cond (eqb refusal 0) (Ok tt) (Err (record { why = refusal_of refusal; place = place }))

run_back : (v : Result (Unit {0}) Refused) → verdict_from (run_told (verdict_paper v)).refusal (run_told (verdict_paper v)).place ≡ v
unfolding verdict_from
run_back (Ok done) = refl
run_back (Err fault) = rw ((named fault.why).some, (named fault.why).back)

arrival_from : ArrivalResult → Result (Unit {0}) Refusal
arrival_from r = cond (eqb r.refusal 0) (Ok tt) (Err (refusal_of r.refusal))

arrival_back : (s : State) (a : Result (Unit {0}) Refusal) → arrival_from (arrival_told (reply (arrival_paper a) s)) ≡ a
unfolding arrival_from
arrival_back s (Ok done) = refl
arrival_back s (Err why) = rw ((named why).some, (named why).back)

pick_from : PickResult → PickAnswer
pick_from r =
    cond (eqb r.refusal 0)
    (cond r.sent (picks.Sent r.flow r.length r.deficit r.visits) picks.Idle)
    (picks.Refused (refusal_of r.refusal))

pick_back : (s : State) (a : PickAnswer) → pick_from (pick_told (reply (pick_paper a) s)) ≡ a
unfolding pick_from
pick_back s picks.Idle = refl
pick_back s (picks.Sent flow length deficit visits) = refl
pick_back s (picks.Refused why) = rw ((named why).some, (named why).back)

figure_from : FigureResult → Result ℕ Refusal
figure_from r = cond (eqb r.refusal 0) (Ok r.value) (Err (refusal_of r.refusal))

figure_back : (a : Result ℕ Refusal) → figure_from (figure_told (figure_paper a)) ≡ a
unfolding figure_from
figure_back (Ok value) = refl
figure_back (Err why) = rw ((named why).some, (named why).back)

pub run_apart : (v w : Result (Unit {0}) Refused) → run_told (verdict_paper v) ≡ run_told (verdict_paper w) → v ≡ w
run_apart v w e = sym (run_back v) ∙ ap (λ (f : RunResult). verdict_from f.refusal f.place) e ∙ run_back w

pub setup_apart : (v w : Result (Unit {0}) Refused) (s t : State) → setup_told (reply (verdict_paper v) s) ≡ setup_told (reply (verdict_paper w) t) →
    (v ≡ w) × (s ≡ t)
setup_apart v w s t e = (
  sym (run_back v) ∙ ap (λ (r : SetupResult). verdict_from r.refusal r.place) e ∙ run_back w,
  ap (λ (r : SetupResult). r.state) e,
)

pub arrival_apart : (a b : Result (Unit {0}) Refusal) (s t : State) → arrival_told (reply (arrival_paper a) s) ≡ arrival_told (reply (arrival_paper b) t) →
    (a ≡ b) × (s ≡ t)
arrival_apart a b s t e = (
  sym (arrival_back s a) ∙ ap arrival_from e ∙ arrival_back t b,
  ap (λ (r : ArrivalResult). r.state) e,
)

pub pick_apart : (a b : PickAnswer) (s t : State) → pick_told (reply (pick_paper a) s) ≡ pick_told (reply (pick_paper b) t) →
    (a ≡ b) × (s ≡ t)
pick_apart a b s t e = (
  sym (pick_back s a) ∙ ap pick_from e ∙ pick_back t b,
  ap (λ (r : PickResult). r.state) e,
)

pub figure_apart : (a b : Result ℕ Refusal) → figure_told (figure_paper a) ≡ figure_told (figure_paper b) → a ≡ b
figure_apart a b e = sym (figure_back a) ∙ ap figure_from e ∙ figure_back b
