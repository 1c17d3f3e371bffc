-- What is proved of the figures beyond the functions' contracts.
-- (Vectors.antt has P1 to P12.)
use mathlib.Core.Path.{◌≡◌, refl, ap, subst⁻¹, ◌∙◌}
use mathlib.Core.Bool.{cond}
use mathlib.Core.List.{List}
use Prim.Native.Nat.{ℕ, ◌-◌, ◌<◌}
use native.Mathlib.Omega.{arith}
use borrow.Author.Tests.{lt-leb}
use lib.Dec.{eqb}
use lib.ListN.{get_or}
use Rattle.drr.specs.declared.FlowRecord.{FlowRecord}
use Rattle.drr.specs.declared.Terms.{Terms}
use Rattle.drr.specs.declared.Table.{Table}
use Rattle.drr.specs.declared.State.{State}
use Rattle.drr.specs.State.{line_in}
use Rattle.drr.specs.Facts.{SoundState}
use Rattle.drr.specs.Answers.{Answer}
use Rattle.drr.specs.Setup.{setup_reply}
use Rattle.drr.specs.Floor.{Call, after_calls, answers_to}
use Rattle.drr.specs.Account.{just_flow, bytes_accepted, bytes_given}
use Rattle.drr.proofs.Facts.{of_sound}
use Rattle.drr.proofs.Calls.{setup_keeps}
use Rattle.drr.proofs.Account.{calls_sound, fresh_account}
use Rattle.drr.proofs.Papers.{refusal_of, named, one_value}
use Rattle.drr.specs.declared.Refusal.{Refusal}
use Rattle.std.specs.Prelude.{Result, Ok, Err}
use Rattle.figures.specs.Answers.{figure_paper, figure_is, asked_answer, waiting_answer}

figure_from : Answer → Result ℕ Refusal
figure_from a = cond (eqb a.refusal 0) (Ok (get_or a.numbers 0 0)) (Err (refusal_of a.refusal))

figure_back : (a : Result ℕ Refusal) → figure_from (figure_paper a) ≡ a
unfolding figure_from
figure_back (Ok value) = refl
figure_back (Err why) = rw ((named why).some, (named why).back)

-- two figures never have the same paper answer
pub figure_apart : (a b : Result ℕ Refusal) → figure_paper a ≡ figure_paper b → a ≡ b
figure_apart = one_value figure_paper figure_from figure_back

-- of a sound state and a flow of its table a figure is not refused
pub asked_fine : (s : State) → SoundState s → (flow : ℕ) → flow < s.table.n → (figure : Answer) → asked_answer s flow figure ≡ figure
unfolding asked_answer
asked_fine s ok flow low figure = rw (of_sound s.table (line_in s.line) ok, lt-leb s.table.n flow low)

-- what is answered over calls from fresh: the bytes accepted less those sent, as the calls and their answers say them
pub waiting_told : (xs : List FlowRecord) (terms : Terms) → (setup_reply xs terms).answer.refusal ≡ 0 → (cs : List Call) (i : ℕ) →
    let s = (setup_reply xs terms).state in
    i < s.table.n →
    waiting_answer (after_calls s cs) i
    ≡ figure_is (bytes_accepted (just_flow i) cs (answers_to s cs) - bytes_given (just_flow i) (answers_to s cs))
waiting_told xs terms fine cs i low =
    let s = (setup_reply xs terms).state in
    let k = calls_sound s (setup_keeps xs terms) cs in
    asked_fine (after_calls s cs) k.0 i (subst⁻¹ (λ (T : Table). i < T.n) k.1 low) _
    ∙ ap figure_is (omega (arith, fresh_account xs terms fine cs i low))
