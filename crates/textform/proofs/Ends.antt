-- A text line by line to its end: the file of its records, or its first fault.
use mathlib.Core.Path.{◌≡◌, refl, sym, ap, ◌∙◌}
use mathlib.Core.Bool.{Bool}
use mathlib.Core.Logic.{⊎_elim}
use mathlib.Core.List.{List, [], ◌∷◌, ◌++◌, append-nil, append_assoc}
use Prim.Native.Nat.{ℕ, ◌+◌, ◌*◌, ◌≤◌, ◌<◌}
use native.Mathlib.Omega.{arith}
use borrow.Author.Tests.{lt-ltb, le-ltb, eq-eqb, ne_eqb}
use lib.ListN.{length, take, length-replicate}
use lib.Seq.{sets}
use Rattle.std.specs.Option.{unwrap_or}
use Rattle.std.specs.Prelude.{Option, Some, None, Ok}
use Rattle.std.specs.List.{slice_split, onto_first}
use Rattle.std.specs.Iterator.{AlwaysYields}
use Rattle.std.proofs.lemmas.List.Sums.{count_by-le-length}
use Rattle.std.proofs.lemmas.List.Splits.{length-slice_split}
use Rattle.drr.proofs.Bools.{dec}
use denote.Ref.{Bor}
use lib.Dec.{eqb}
use Rattle.runfile.specs.File.{header_size}
use Rattle.text.specs.Text.{overlaid}
use Rattle.textform.specs.declared.Want.{Want}
use Rattle.textform.specs.declared.Want.TheVariants as want
use Rattle.textform.specs.declared.progress.Progress.{Progress}
use Rattle.textform.specs.Grammar.{lines_from, lines_of, item_of}
use Rattle.textform.specs.Made.{Draft, no_records, overhead_said, Step, goes, stops, judged_line, made, fault, and_then, drafted}
use Rattle.textform.specs.Made.{header_bytes, file_of, most_text, newlines, outcome_of, most_made, made_in, made_of}
use Rattle.textform.specs.Needs.{zeros, said, Holds, Gone, Finished}
use Rattle.textform.proofs.Puts.{put_file}

-- ---- the records of a text, with their header
overhead_is : (os : List ℕ) → unwrap_or (said os) 0 ≡ overhead_said os
overhead_is [] = refl
overhead_is (o ∷ os) = refl

pub whole : (c : Progress) (o : ℕ) (b : List ℕ) → o ≡ unwrap_or c.overhead 0 → b ≡ sets c.file 0 (header_bytes c.flows c.events o) →
    Finished c (record { answer = Ok (header_size + 8 * c.flows + 8 * c.events); file = b })
whole c o b e is d k =
    let none : ℕ = 0 in
    let room : header_size + 8 * length d.flows + 8 * length d.events ≤ length zeros =
    omega (arith, k.flows_are, k.events_are, c.flows_fit, c.events_fit, length-replicate most_made none) in
    let overhead : o ≡ overhead_said d.overheads = e ∙ ap (λ (x : Option ℕ). unwrap_or x 0) k.overhead_is ∙ overhead_is d.overheads in
    let bytes : b ≡ overlaid (file_of (overhead_said d.overheads) d.flows d.events) zeros =
    is ∙ (λ i. sets (k.file_is i) 0 (header_bytes (k.flows_are i) (k.events_are i) (overhead i)))
    ∙ put_file zeros d.flows (overhead_said d.overheads) d.events room in
    (λ i. record { answer = Ok (header_size + 8 * k.flows_are i + 8 * k.events_are i); file = bytes i })

-- ---- the lines of a text, as they are split
abbrev newline : ℕ → Bool
newline b = eqb b 10

-- a text before the first line
abbrev before : List ℕ → List (List ℕ) → List (List ℕ)
before w [] = w ∷ []
before w (l ∷ ls) = (w ++ l) ∷ ls

nothing_before : (t : List ℕ) → before [] (slice_split newline t) ≡ slice_split newline t
nothing_before [] = refl
nothing_before (x ∷ xs) = ⊎_elim (λ e. rw e refl) (λ e. rw e (by (slice_split newline xs))) (dec (eqb x 10))
  where
    by : (ls : List (List ℕ)) → before [] (onto_first x ls) ≡ onto_first x ls
    by [] = refl
    by (l ∷ ls) = refl

lines_before : (w t : List ℕ) → lines_from w t ≡ before w (slice_split newline t)
lines_before w [] = ap (λ (l : List ℕ). l ∷ []) (sym (append-nil w))
lines_before w (x ∷ xs) =
    ⊎_elim
    (λ e. rw e (ap (λ (ls : List (List ℕ)). w ∷ ls) (lines_before [] xs ∙ nothing_before xs)
    ∙ ap (λ (l : List ℕ). l ∷ slice_split newline xs) (sym (append-nil w))))
    (λ e. rw e (lines_before (w ++ x ∷ []) xs ∙ by (slice_split newline xs)))
    (dec (eqb x 10))
  where
    by : (ls : List (List ℕ)) → before (w ++ x ∷ []) ls ≡ before w (onto_first x ls)
    by [] = refl
    by (l ∷ ls) = ap (λ (v : List ℕ). v ∷ ls) (append_assoc w (x ∷ []) l)

lines_split : (text : List ℕ) → lines_of text ≡ slice_split newline text
lines_split text = lines_before [] text ∙ nothing_before text

-- no more than its bytes and one
lines_few : (t : List ℕ) → length (slice_split newline t) ≤ length t + 1
lines_few t = omega (arith, length-slice_split newline t, count_by-le-length newline t)

-- ---- line by line: what the iterator still gives
abbrev Steps : Type 0 → Type 1
Steps S = S → Option (Bor (List ℕ)) → S → Type 0

pub record Going {S : Type 0} (steps : Steps S) (s : S) (text : List ℕ) (line : ℕ) (c : Progress) : Type 0 where
  pub so_far : Draft
  pub left : List (List ℕ)
  pub gives : AlwaysYields steps (λ x. x.now) s left
  pub held : Holds c so_far
  pub on : drafted line so_far left ≡ drafted 0 no_records (lines_of text)
  pub short : line + length left ≤ length text + 1

pub start : {S : Type 0} (steps : Steps S) (s : S) (text : List ℕ) (c : Progress) → AlwaysYields steps (λ x. x.now) s (slice_split newline text) →
    Holds c no_records → Going steps s text 0 c
start steps s text c gives held = record {
  so_far = no_records;
  left = slice_split newline text;
  gives = gives;
  held = held;
  on = ap (drafted 0 no_records) (sym (lines_split text));
  short = omega (arith, lines_few text);
}

-- the next line, and those behind it
pub record Next {S : Type 0} (steps : Steps S) (left : List (List ℕ)) (x : List ℕ) (t : S) : Type 0 where
  pub more : List (List ℕ)
  pub left_is : left ≡ x ∷ more
  pub gives_more : AlwaysYields steps (λ x. x.now) t more

module _ {S : Type 0} {steps : Steps S} {s : S} {text : List ℕ} {line : ℕ} {c : Progress} (p : Going steps s text line c) where
  module _ (x : Bor (List ℕ)) (t : S) (step : steps s (Some x) t) where
    next : Next steps p.left x.now t
    next = by p.left p.gives
      where
        by : (ls : List (List ℕ)) → AlwaysYields steps (λ x. x.now) s ls → Next steps ls x.now t
        by [] g = absurd (g x t step)
        by (l ∷ ls) g = let h = g.1 x t step in record { more = ls; left_is = ap (λ (k : List ℕ). k ∷ ls) (sym h.0); gives_more = h.1 }

    abbrev judge : Step
    judge = judged_line p.so_far (item_of x.now)

    first_line_lem : (r : Step) → judge ≡ r →
        and_then r (λ d. drafted (line + 1) d next.more) (λ w. fault (line + 1) w) ≡ drafted 0 no_records (lines_of text)
    first_line_lem r e =
        ap (λ (k : Step). and_then k (λ d. drafted (line + 1) d next.more) (λ w. fault (line + 1) w)) (sym e)
        ∙ ap (drafted line p.so_far) (sym next.left_is)
        ∙ p.on

    pub stopped : (w : Want) → judge ≡ stops w → drafted 0 no_records (lines_of text) ≡ fault (line + 1) w
    stopped w e = sym (first_line_lem (stops w) e)

    pub goes_on : (c' : Progress) → Gone c' judge → Going steps t text (line + 1) c'
    goes_on c' g = record {
      so_far = g.next;
      left = next.more;
      gives = next.gives_more;
      held = g.next_held;
      on = first_line_lem (goes g.next) g.goes_to;
      short = omega (arith, p.short, ap length next.left_is);
    }

  module _ (t : S) (step : steps s None t) where
    none_left : p.left ≡ []
    none_left = by p.left p.gives
      where
        by : (ls : List (List ℕ)) → AlwaysYields steps (λ x. x.now) s ls → ls ≡ []
        by [] g = refl
        by (l ∷ ls) g = absurd (g.0 t step)

    all_is : drafted 0 no_records (lines_of text) ≡ drafted line p.so_far []
    all_is = sym p.on ∙ ap (drafted line p.so_far) none_left

    pub no_flow : c.flows ≡ 0 → drafted 0 no_records (lines_of text) ≡ fault line want.FlowsFirst
    no_flow e = all_is ∙ rw (eq-eqb (length p.so_far.flows) 0 (omega (arith, e, p.held.flows_are)))

    pub some_flow : (c.flows ≡ 0 → ⊥) → drafted 0 no_records (lines_of text) ≡ made p.so_far
    some_flow h = all_is ∙ rw (ne_eqb (length p.so_far.flows) 0 (λ e. h (omega (arith, e, p.held.flows_are))))

-- ---- how long the text is
pub too_long : (text : List ℕ) (n : ℕ) → most_text < length text → n ≡ newlines (take most_text text) →
    made_in (fault (n + 1) want.Shorter) ≡ made_of text
unfolding made_of outcome_of
too_long text n h e = ap (λ (k : ℕ). made_in (fault (k + 1) want.Shorter)) e ∙ rw (lt-ltb most_text (length text) h)

pub not_too_long : (text : List ℕ) → length text ≤ most_text → made_in (drafted 0 no_records (lines_of text)) ≡ made_of text
unfolding made_of outcome_of
not_too_long text h = rw (le-ltb most_text (length text) h)
