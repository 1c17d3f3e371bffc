-- The size that `make_file` answers is within the bytes that it gives: `&file[..size]` can be lent.
use mathlib.Core.Path.{◌≡◌, refl, sym, ap, ◌∙◌}
use mathlib.Core.List.{List}
use Prim.Native.Nat.{ℕ}
use lib.ListN.{replicate}
use Rattle.text.specs.Text.{overlaid}
use Rattle.text.proofs.Texts.{counted}
use Rattle.textform.specs.declared.Made.{Made}
use Rattle.textform.specs.Made.{made_bytes, making_of, most_made, made_of, Whole}
use Rattle.textform.proofs.Drafts.{made_size}

pub made_answer : (text : List ℕ) → (made_of text).answer ≡ making_of text
unfolding made_of making_of
made_answer text = refl

pub made_file : (text : List ℕ) → (made_of text).file ≡ overlaid (made_bytes text) (replicate most_made 0)
unfolding made_of made_bytes
made_file text = refl

pub whole : (text : List ℕ) (r : Made) → r ≡ made_of text → (r ≡ made_of text) × Whole r
whole text r is = (
  is,
  λ n e.
      counted (made_bytes text) (replicate most_made 0) r.file n
      (sym (made_size text n (sym (made_answer text) ∙ ap (λ (m : Made). m.answer) (sym is) ∙ e)))
      (ap (λ (m : Made). m.file) is ∙ made_file text),
)
