-- What is printed of a run: its lines up to and with line 3, and nothing of what follows them in the list, or in the list beside it.
use mathlib.Core.Path.{◌≡◌, refl, sym, ap, ◌∙◌}
use mathlib.Core.Bool.{Bool, true, false, cond}
use mathlib.Core.List.{List, [], ◌∷◌, ◌++◌}
use mathlib.Core.Logic.{⊎_elim}
use Prim.Native.Nat.{ℕ, zero, suc, ◌+◌, ◌*◌, ◌≤◌}
use native.Mathlib.Omega.{arith}
use borrow.Author.Tests.{le-ltb, eqb-true}
use lib.Dec.{eqb}
use lib.ListN.{length, take, drop}
use Rattle.drr.specs.declared.Table.{Table}
use Rattle.drr.specs.declared.Refusal.{Refusal}
use Rattle.drr.specs.State.{Line, bytes_waiting, fresh_line}
use Rattle.drr.specs.Facts.{Sound}
use Rattle.drr.specs.Answers.{Answer, flow_in, number_of, fine, refused_at}
use Rattle.drr.specs.Arrival.{arrival_of}
use Rattle.drr.specs.Computed.{pick_of}
use Rattle.drr.proofs.Bools.{dec, apart}
use Rattle.drr.proofs.Papers.{number_some}
use Rattle.drr.proofs.Waiting.{PickedAs, idled, gave, pick_as}
use Rattle.drr.proofs.Demand3.{calls_keep}
use Rattle.runfile.specs.declared.turns.Tally.{Tally}
use Rattle.runfile.specs.File.{event_count, file_answer, run_answer}
use Rattle.runfile.specs.Run.{Act, comes, asks, call_in, outcome_of, table_in, run_calls}
use Rattle.runfile.specs.Listing.{tally, start_line, line_for, after_act, listing, beside_of, beside_all}
use Rattle.runfile.specs.Listing.{run_listing, run_waiting, filled, filled_lines, filled_beside}
use Rattle.runfile.proofs.Files.{file_laid}
use Rattle.runfile.proofs.Claims.{file_sound}
use Rattle.text.specs.Text.{form_text, kinds, form_in, line_text, beside_text, listing_text, refusal_text}
use Rattle.answers.specs.Printed.{answer_text, run_text, waiting_text, list_room}
use Rattle.answers.proofs.Given.{refused_text, fine_text}

-- ---- a call gives no line, or one that is not line 3, and a number beside each line
data Lines : List ℕ → List ℕ → Type 0 where
  no_lines : Lines [] []
  one_line : (k a b c d e n : ℕ) → eqb k 3 ≡ false → Lines (k ∷ a ∷ b ∷ c ∷ d ∷ e ∷ []) (n ∷ [])

refused_line : (tick flow len r n : ℕ) (t : Bool) → Lines (cond t [] (2 ∷ tick ∷ flow ∷ len ∷ r ∷ 0 ∷ [])) (cond t [] (n ∷ []))
refused_line tick flow len r n true = no_lines
refused_line tick flow len r n false = one_line 2 tick flow len r 0 n refl

sent_line : (t n : ℕ) (l : Line) (a : Answer) (l' : Line) → PickedAs l a l' → Lines (start_line t a) (cond a.sends (n ∷ []) [])
sent_line t n l a l' (idled e x y) = rw e no_lines
sent_line t n l a l' (gave f len d v e less most) = rw e (one_line 1 t f len d v n refl)

lines_of : (T : Table) (l : Line) → Sound T l → (k : Act) → let o = outcome_of T l k in
    Lines (line_for k o.answer) (beside_of k o.answer o.line)
lines_of T l ok (comes a f n) =
    let o = arrival_of T l f n in
    refused_line a f n o.answer.refusal (bytes_waiting o.line f) (eqb o.answer.refusal 0)
lines_of T l ok (asks t) =
    let o = pick_of T l in
    sent_line t (bytes_waiting o.line (flow_in o.answer)) l o.answer o.line (pick_as T l ok)

-- ---- so the text of a listing is that of the list that it stands in, whatever stands behind the numbers beside its lines: of m lines
-- the same numbers stand beside them
abbrev Beside : ℕ → List ℕ → List ℕ → Type 0
Beside zero w v = Unit {0}
Beside (suc m) w v = (take 1 w ≡ take 1 v) × Beside m (drop 1 w) (drop 1 v)

beside_same : (m : ℕ) (w : List ℕ) → Beside m w w
beside_same zero w = tt
beside_same (suc m) w = (refl, beside_same m (drop 1 w))

beside_front : (v rest : List ℕ) → Beside (length v) (v ++ rest) v
beside_front [] rest = tt
beside_front (x ∷ v) rest = (refl, beside_front v rest)

lines_first : (u v X Y rest w w' : List ℕ) → Lines u v → Beside (length (v ++ Y)) w w' →
    ((z z' : List ℕ) → Beside (length Y) z z' → beside_text (X ++ rest) z ≡ beside_text X z') →
    beside_text ((u ++ X) ++ rest) w ≡ beside_text (u ++ X) w'
unfolding beside_text line_text
lines_first u v X Y rest w w' no_lines same h = h w w' same
lines_first u v X Y rest w w' (one_line k a b c d e n more) same h =
    λ i. form_text (form_in kinds k) (a ∷ b ∷ c ∷ d ∷ e ∷ []) (cond (eqb k 3) [] (same.0 i))
    ++ cond (eqb k 3) [] (h (drop 1 w) (drop 1 w') same.1 i)

shown : (T : Table) (ks : List Act) (l : Line) (y : Tally) (rest w w' : List ℕ) → Sound T l → Beside (length (beside_all T ks l)) w w' →
    beside_text (listing T ks l y ++ rest) w ≡ beside_text (listing T ks l y) w'
unfolding listing beside_text line_text
shown T [] l y rest w w' ok same = refl
shown T (k ∷ ks) l y rest w w' ok same =
    let o = outcome_of T l k in
    let after = after_act T k o.answer y in
    lines_first (line_for k o.answer) (beside_of k o.answer o.line) (listing T ks o.line after) (beside_all T ks o.line)
    rest w w' (lines_of T l ok k) same
    (λ z z'. shown T ks o.line after rest z z' (calls_keep T l ok (call_in k ∷ [])))

-- ---- a list of 6,150 numbers, and 1,024 beside it, have room for any run, and the text is the file's
module _ (b : List ℕ) where
  abbrev T : Table
  T = table_in b

  abbrev fresh : Line
  fresh = fresh_line T.n

  pub run_printed : (out : List ℕ) → (file_answer b).refusal ≡ 0 → (run_answer b (length out)).refusal ≡ 0 →
      listing_text (filled b out) ≡ listing_text (run_listing b)
  unfolding filled_lines
  run_printed out ok e =
      let rest : List ℕ = drop (6 * (event_count b + 1)) out in
      rw e (shown T (run_calls b) fresh (tally 0 0 0) rest [] [] (file_sound b ok []) (beside_same (length (run_waiting b)) []))

  pub waiting_printed : (room : ℕ) (out beside : List ℕ) → (file_answer b).refusal ≡ 0 → (run_answer b room).refusal ≡ 0 →
      beside_text (filled_lines room b out) (filled_beside room b beside) ≡ beside_text (run_listing b) (run_waiting b)
  unfolding filled_lines filled_beside
  waiting_printed room out beside ok e =
      let rest : List ℕ = drop (6 * (event_count b + 1)) out in
      let more : List ℕ = drop (event_count b) beside in
      let w : List ℕ = run_waiting b in
      rw e (shown T (run_calls b) fresh (tally 0 0 0) rest (w ++ more) w (file_sound b ok []) (beside_front w more))

  module _ (room : ℕ) (long : list_room ≤ room) where
    judged : (t : Bool) → eqb (file_answer b).refusal 0 ≡ t → run_answer b room ≡ cond t fine (file_answer b)
    unfolding run_answer
    judged true e =
        let enough : 6 * (event_count b + 1) ≤ room = omega (arith, (file_laid b (eqb-true _ 0 e)).events_few) in
        rw (e, le-ltb room (6 * (event_count b + 1)) enough)
    judged false e = rw e

    module _ (why : Refusal) (place : ℕ) (e : refused_at (number_of why) place ≡ run_answer b room) where
      refusal : (text : List ℕ) → refusal_text (number_of why) place ≡ answer_text (file_answer b) text
      refusal text =
          refused_text (file_answer b) why place text (⊎_elim
          (λ t. absurd (apart (ap (λ (a : Answer). eqb a.refusal 0) (e ∙ judged true t)) (number_some why)))
          (λ t. e ∙ judged false t)
          (dec (eqb (file_answer b).refusal 0)))

      pub run_refusal : refusal_text (number_of why) place ≡ run_text b
      unfolding run_text
      run_refusal = refusal _

      pub waiting_refusal : refusal_text (number_of why) place ≡ waiting_text b
      unfolding waiting_text
      waiting_refusal = refusal _

    module _ (e : (run_answer b room).refusal ≡ 0) where
      run_fine : (file_answer b).refusal ≡ 0
      run_fine =
          ⊎_elim
          (λ t. eqb-true _ 0 t)
          (λ t. ap (λ (a : Answer). a.refusal) (sym (judged false t)) ∙ e)
          (dec (eqb (file_answer b).refusal 0))

      pub waiting_listing : (out beside : List ℕ) → beside_text (filled_lines room b out) (filled_beside room b beside) ≡ waiting_text b
      unfolding waiting_text
      waiting_listing out beside = waiting_printed room out beside run_fine e ∙ fine_text (file_answer b) _ run_fine

  pub run_listing_lem : (out : List ℕ) → list_room ≤ length out → (run_answer b (length out)).refusal ≡ 0 →
      listing_text (filled b out) ≡ run_text b
  unfolding run_text
  run_listing_lem out long e =
      let ok = run_fine (length out) long e in
      run_printed out ok e ∙ fine_text (file_answer b) _ ok
