-- The text of an answer, and what is promised of a text in a lent buffer.
use mathlib.Core.Path.{◌≡◌, subst}
use mathlib.Core.List.{List, []}
use Prim.Native.Nat.{ℕ, ◌+◌, ◌*◌, ◌/◌, ◌≤◌, ◌<◌}
use borrow.Author.Tests.{le-ltb, lt-ltb}
use lib.ListN.{length}
use Rattle.io.specs.Counts.{IsPrefixLen}
use Rattle.drr.specs.declared.Refusal.{Refusal}
use Rattle.drr.specs.Answers.{Answer, number_of, refused_at}
use Rattle.drr.proofs.Papers.{number_some}
use Rattle.text.specs.Text.{refusal_text, refusal_within, listing_text, listing_within, beside_text, beside_within, overlaid}
use Rattle.text.proofs.Texts.{Filled, counted}
use Rattle.answers.specs.Printed.{answer_text, run_text, run_text_within, waiting_text, waiting_text_within, figures_text, figures_text_within}
use Rattle.answers.specs.declared.Dress.{Dress}
use Rattle.answers.specs.Printed.{run_room, waiting_room, figures_room, most_sizes}

-- the text W at the start of the buffer b gives b', and r is how many bytes it has
abbrev pub Given : List ℕ → List ℕ → List ℕ → ℕ → Type 0
Given W b b' r = (r ≡ length W) × ((b' ≡ overlaid W b) × IsPrefixLen r b')

-- the same text, told otherwise
pub as_text : (U W b b' : List ℕ) (r : ℕ) → U ≡ W → Filled U b b' r → Filled W b b' r
as_text U W b b' r = subst (λ (z : List ℕ). Filled z b b' r)

pub given : (U W b b' : List ℕ) (r : ℕ) → U ≡ W → Filled U b b' r → Given W b b' r
given U W b b' r e f =
    let g = as_text U W b b' r e f in
    (g.0, (g.1, counted W b b' r g.0 g.1))

-- the text of an answer that refuses, in a buffer with room for it, and of one that does not
pub refused_text : (a : Answer) (why : Refusal) (place : ℕ) (text : List ℕ) → refused_at (number_of why) place ≡ a →
    refusal_text (number_of why) place ≡ answer_text a text
refused_text a why place text e = rw (← e, number_some why)

pub fine_text : (a : Answer) (text : List ℕ) → a.refusal ≡ 0 → text ≡ answer_text a text
fine_text a text e = rw e

pub refusal_fits : (number place room : ℕ) → 44 ≤ room → refusal_within number place room ≡ refusal_text number place
unfolding refusal_within
refusal_fits number place room h = rw (le-ltb room 44 h)

-- ---- a buffer too short for a run's text, and one that is not
pub run_short : (b : List ℕ) (room : ℕ) → room < run_room → [] ≡ run_text_within b room
unfolding run_text_within
run_short b room h = rw (lt-ltb room run_room h)

pub run_fits : (b : List ℕ) (room : ℕ) → run_room ≤ room → run_text b ≡ run_text_within b room
unfolding run_text_within
run_fits b room h = rw (le-ltb room run_room h)

pub waiting_short : (b : List ℕ) (room : ℕ) → room < waiting_room → [] ≡ waiting_text_within b room
unfolding waiting_text_within
waiting_short b room h = rw (lt-ltb room waiting_room h)

pub waiting_fits : (b : List ℕ) (room : ℕ) → waiting_room ≤ room → waiting_text b ≡ waiting_text_within b room
unfolding waiting_text_within
waiting_fits b room h = rw (le-ltb room waiting_room h)

pub beside_fits : (list beside : List ℕ) (room : ℕ) → 18 * length list + 21 * length beside ≤ room →
    beside_within list beside room ≡ beside_text list beside
unfolding beside_within
beside_fits list beside room h = rw (le-ltb room (18 * length list + 21 * length beside) h)

pub listing_fits : (list : List ℕ) (room : ℕ) → length list ≤ room / 18 → listing_within list room ≡ listing_text list
unfolding listing_within
listing_fits list room h = rw (le-ltb (room / 18) (length list) h)

-- ---- .. for the figures' text
module _ (b sizes : List ℕ) (dress : Dress) (room : ℕ) where
  pub figures_short : room < figures_room → [] ≡ figures_text_within b sizes dress room
  unfolding figures_text_within
  figures_short h = rw (lt-ltb room figures_room h)

  pub figures_many : figures_room ≤ room → most_sizes < length sizes → [] ≡ figures_text_within b sizes dress room
  unfolding figures_text_within
  figures_many h m = rw (le-ltb room figures_room h, lt-ltb most_sizes (length sizes) m)

  pub figures_fit : figures_room ≤ room → length sizes ≤ most_sizes → figures_text b sizes dress ≡ figures_text_within b sizes dress room
  unfolding figures_text_within
  figures_fit h m = rw (le-ltb room figures_room h, le-ltb most_sizes (length sizes) m)
