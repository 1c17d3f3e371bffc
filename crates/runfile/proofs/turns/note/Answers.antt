use Rattle.std.proofs.Common.{Result, Ok, Err, ℕ, ◌≡◌, ◌+◌, List, arith, refl, sym}
use Rattle.drr.specs.declared.Refusal.{Refusal}
use Rattle.drr.specs.Answers.{arrival_paper}
use Rattle.drr.proofs.Papers.{number_some}
use Rattle.runfile.specs.Listing.{beside_event, written}
use Rattle.runfile.proofs.Lines.{one, written_none}
use Rattle.runfile.proofs.turns.note.Goals as goal
use Rattle.runfile.proofs.turns.note.Goals.{in-Err, in_default}

-- nothing beside an event that is accepted
accepted : (o : List ℕ) (k n : ℕ) (a : Result (Unit {0}) Refusal) → ((why : Refusal) → a ≡ Err why → ⊥) →
    o ≡ written 1 o k (beside_event (arrival_paper a).refusal n)
accepted o k n (Ok done) z = sym (written_none 1 o k)
accepted o k n (Err why) z = absurd (z why refl)

pub returns-clause-beside_after : goal.returns-clause-beside_after
returns-clause-beside_after c =
    elim c.match-answer.branch [
      | in-Err w ↦ rw (w.beside-is, w.in-Err.is, number_some w.in-Err.why, w.lines-k.ensures) (one _ _ _ (omega (arith, c.requires.number)))
      | in_default w ↦ rw w.beside-is (accepted _ (c.args.y.sent + c.args.y.refused) c.args.waiting c.args.answer w.in_default.not-Err)
    ]
