use Rattle.std.proofs.Common.{◌≡◌, ℕ, List, [], ◌∷◌, ◌++◌, take, refl, ap, ◌∙◌}
use Rattle.std.specs.Prelude.{Option, Some}
use Rattle.text.specs.Text.{Form, spaced_text, fields_text, form_text}
use Rattle.text.proofs.Texts.{puts_two, puts_as, room_first, room_then}
use Rattle.text.proofs.Lines.{fields_two}
use Rattle.text.proofs.Out.line.Goals as goal

-- a form with a letter: the letter, its fields, and what stands beside them
parts : (form : Option Form) (letter count : ℕ) (l w : List ℕ) → form ≡ Some (letter, count) →
    form_text form l w ≡ (letter ∷ []) ++ (spaced_text (take count l) ++ fields_text w)
parts form letter count l w is =
    ap (λ (g : Option Form). form_text g l w) is ∙ ap (λ (t : List ℕ). letter ∷ t) (fields_two (take count l) w)

-- .. the last two
two : (count : ℕ) (l w : List ℕ) → spaced_text (take count l) ++ fields_text w ≡ spaced_text (take count l) ++ fields_text w
two count l w = refl

pub returns : goal.returns
returns c =
    let a = c.args in
    let f = c.in-Some in
    puts_as (parts a.form f.letter f.count a.fields.now a.beside.now f.is)
    (puts_two c.byte.ensures (puts_two c.spaced.ensures c.fields.ensures))

pub spaced-requires : goal.spaced-requires
spaced-requires c =
    let a = c.args in
    let f = c.in-Some in
    room_first c.byte.new.self _ _ _ (two f.count a.fields.now a.beside.now)
    (room_then _ _ (parts a.form f.letter f.count a.fields.now a.beside.now f.is) c.requires.room c.byte.ensures)

pub fields-requires : goal.fields-requires
fields-requires c =
    let a = c.args in
    let f = c.in-Some in
    room_then _ _ (two f.count a.fields.now a.beside.now)
    (room_then _ _ (parts a.form f.letter f.count a.fields.now a.beside.now f.is) c.requires.room c.byte.ensures) c.spaced.ensures
