-- The lines of a shown file: a record's line in a buffer, and a file's records one after the other.
use mathlib.Core.Path.{◌≡◌, refl, sym, ap, subst, ◌∙◌}
use mathlib.Core.List.{List, [], ◌∷◌, ◌++◌}
use Prim.Native.Nat.{ℕ, zero, suc, ◌+◌, ◌*◌, ◌-◌, ◌/◌, ◌≤◌, ◌<◌}
use native.Mathlib.Numerals.{add-one}
use native.Mathlib.Omega.{arith}
use borrow.Author.Tests.{le-ltb}
use lib.ListN.{length, get_or, take, drop, length-append, length-drop, get_or-append}
use lib.Seq.{sets-eq, length-sets, drop_at, length-take-le}
use Rattle.std.proofs.Common.{take-append-drop}
use Rattle.drr.specs.declared.FlowRecord.{FlowRecord}
use Rattle.runfile.specs.File.{Event, le2, le4, event_at, events_from}
use Rattle.text.specs.Text.{numbers_text, numbers_within, Put}
use Rattle.std.specs.Prelude.{Option, Some, None}
use Rattle.std.specs.Iterator.{AlwaysYields}
use Rattle.std.specs.List.{zip}
use Rattle.std.specs.Slice.Iter.{chunks_exact_rest, chunks_exact_size, chunks_exact_steps}
use Rattle.std.specs.declared.slice.ChunksExact.{ChunksExact}
use Rattle.text.proofs.Texts.{Left, left_all, left_next, left_end, put_none, Filled, filled}
use Rattle.text.proofs.Lines.{to_end, numbers_most}
use Rattle.answers.proofs.Given.{as_text}
use Rattle.answers.proofs.FlowLines.{part_put}
use Rattle.textform.specs.Made.{each}
use Rattle.textform.specs.Shown.{flow_text, event_text, records_from, flow_line_room, event_line_room}
use Rattle.textform.proofs.Bytes.{le2_drop, le4_drop}

-- ---- a text put at the start of a buffer, and another in the part behind it
-- the part of a buffer from r on, as the code lends it, and the buffer with that part as it is given back
abbrev pub behind : List ℕ → ℕ → List ℕ
behind b r = take (length b - r) (drop r b)

abbrev pub joined : List ℕ → ℕ → List ℕ → List ℕ
joined b r part = take r b ++ (part ++ drop (length b - r) (drop r b))

pub behind_length : (b : List ℕ) (r : ℕ) → length (behind b r) ≡ length b - r
behind_length b r = omega (arith, ap length (to_end r b), length-drop r b)

module _
    (u v b begun part : List ℕ) (r size : ℕ) (room : length u + length v ≤ length b)
    (first : Put b 0 u begun r) (second : Filled v (behind begun r) part size) where
  whole_fits : length (u ++ v) ≤ length b
  whole_fits = omega (arith, length-append u v)

  put : Put b 0 (u ++ v) (joined begun r part) (r + size)
  put =
      let same : length begun ≡ length b = ap length first.0 ∙ length-sets b 0 u in
      let begins : Left b 0 (u ++ v) begun r v =
      left_next (left_all b 0 (u ++ v) (omega (arith, whole_fits))) u v refl begun r first same in
      let fits : r + length v ≤ length begun = omega (arith, first.1, same) in
      left_end begins v refl (joined begun r part) (r + size) (part_put begun r v part size fits second)

  pub both_filled : Filled (u ++ v) b (joined begun r part) (r + size)
  both_filled = filled 0 0 (u ++ v) b (joined begun r part) (r + size) (omega arith) whole_fits put

-- a text that stands at the start of a buffer was put there
pub as_put : (u b begun : List ℕ) (r : ℕ) → length u ≤ length b → Filled u b begun r → Put b 0 u begun r
as_put u b begun r room p =
    let e : 0 + length u ≡ length u = omega arith in
    (p.1 ∙ ap (λ (i : ℕ). u ++ drop i b) (sym e) ∙ sym (sets-eq u b 0 (omega arith)), p.0 ∙ sym e)

-- ---- a line: its word, and then numbers
module _
    (word list b begun part : List ℕ) (size : ℕ) (room : length word + 21 * length list ≤ length b)
    (is : begun ≡ word ++ drop (length word) b)
    (second : Filled (numbers_within list (length (behind begun (length word)))) (behind begun (length word)) part size) where
  begins : Put b 0 word begun (length word)
  begins = as_put word b begun (length word) (omega (arith, room)) (refl, is)

  numbers_fit : numbers_within list (length (behind begun (length word))) ≡ numbers_text list
  unfolding numbers_within
  numbers_fit =
      let rest = length (behind begun (length word)) in
      let same : length begun ≡ length b = ap length begins.0 ∙ length-sets b 0 word in
      let enough : length list ≤ rest / 21 = omega (arith, behind_length begun (length word), same, room) in
      rw (le-ltb (rest / 21) (length list) enough)

  pub line_filled : Filled (word ++ numbers_text list) b (joined begun (length word) part) (length word + size)
  line_filled =
      both_filled word (numbers_text list) b begun part (length word) size (omega (arith, numbers_most list, room)) begins
      (as_text _ _ (behind begun (length word)) part size numbers_fit second)

-- ---- line after line, of what an iterator gives, none of them longer than `most`
pub record Printing {S A B : Type 0}
    (steps : S → Option A → S → Type 0) (v : A → B) (line : B → List ℕ) (most : ℕ) (s : S) (b whole b' : List ℕ) (at : ℕ) : Type 0 where
  pub left : List B
  pub gives : AlwaysYields steps v s left
  pub to_put : Left b 0 whole b' at (each line left)
  pub room : at + most * length left ≤ length b'

each_most : {B : Type 0} (line : B → List ℕ) (most : ℕ) → ((y : B) → length (line y) ≤ most) → (ys : List B) →
    length (each line ys) ≤ most * length ys
each_most line most short [] = omega arith
each_most line most short (y ∷ ys) = omega (arith, length-append (line y) (each line ys), short y, each_most line most short ys)

module _ {S A B : Type 0} {steps : S → Option A → S → Type 0} {v : A → B} {line : B → List ℕ} {most : ℕ}
    (short : (y : B) → length (line y) ≤ most) where
  pub none_put : (s : S) (ys : List B) (b whole : List ℕ) → AlwaysYields steps v s ys → whole ≡ each line ys → most * length ys ≤ length b →
      Printing steps v line most s b whole b 0
  none_put s ys b whole gives is room = record {
    left = ys;
    gives = gives;
    to_put = subst (λ (w : List ℕ). Left b 0 w b 0 (each line ys)) (sym is) (left_all b 0 (each line ys) (omega (arith, each_most line most short ys, room)));
    room = omega arith;
  }

  module _ {s : S} {b whole b' : List ℕ} {at : ℕ} (p : Printing steps v line most s b whole b' at) where
    -- the next line, and those behind it
    module _ (x : A) (t : S) (step : steps s (Some x) t) where
      next : (more : List B) × (p.left ≡ v x ∷ more) × AlwaysYields steps v t more
      next = by p.left p.gives
        where
          by : (ys : List B) → AlwaysYields steps v s ys → (more : List B) × (ys ≡ v x ∷ more) × AlwaysYields steps v t more
          by [] g = absurd (g x t step)
          by (y ∷ ys) g = let h = g.1 x t step in (ys, ap (λ (k : B). k ∷ ys) (sym h.0), h.1)

      pub line_room : at + most ≤ length b'
      line_room = omega (arith, p.room, ap (λ (ys : List B). most * length ys) next.1)

      pub line_put : (part : List ℕ) (size : ℕ) → Filled (line (v x)) (behind b' at) part size →
          Printing steps v line most t b whole (joined b' at part) (at + size)
      line_put part size filled =
          let put = part_put b' at (line (v x)) part size (omega (arith, line_room, short (v x))) filled in
          let same : length (joined b' at part) ≡ length b' = ap length put.0 ∙ length-sets b' at (line (v x)) in
          record {
            left = next.0;
            gives = next.2;
            to_put = left_next p.to_put (line (v x)) (each line next.0) (ap (each line) next.1) _ _ put same;
            room = omega (arith, p.room, ap (λ (ys : List B). most * length ys) next.1, same, put.1, short (v x));
          }

    pub all_put : (t : S) → steps s None t → Filled whole b b' at
    all_put t step =
        filled 0 0 whole b b' at (omega arith) (omega (arith, p.to_put.fits)) (left_end p.to_put [] (by p.left p.gives) b' at (put_none b' at))
      where
        by : (ys : List B) → AlwaysYields steps v s ys → each line ys ≡ []
        by [] g = refl
        by (y ∷ ys) g = absurd (g.0 t step)

-- a record's line takes no more than its room
pub flow_most : (r : FlowRecord) → length (flow_text r) ≤ flow_line_room
flow_most r = omega (arith, numbers_most (r.quantum ∷ r.maximum ∷ []))

pub event_most : (e : Event) → length (event_text e) ≤ event_line_room
event_most e = omega (arith, numbers_most (e.tick ∷ e.flow ∷ e.length ∷ []))

pub flows_most : (xs : List FlowRecord) → length (each flow_text xs) ≤ flow_line_room * length xs
flows_most xs = each_most flow_text flow_line_room flow_most xs

pub events_most : (es : List Event) → length (each event_text es) ≤ event_line_room * length es
events_most es = each_most event_text event_line_room event_most es

-- ---- the flows of a table, as its quanta and maxima are gone over side by side
abbrev pub flow_of_pair : ℕ × ℕ → FlowRecord
flow_of_pair p = record { quantum = p.0; maximum = p.1 }

records_later : (x y : ℕ) (quanta maxima : List ℕ) (f k : ℕ) →
    records_from (x ∷ quanta) (y ∷ maxima) (f + 1) k ≡ records_from quanta maxima f k
records_later x y quanta maxima f zero = refl
records_later x y quanta maxima f (suc k) =
    (λ i. record { quantum = get_or (x ∷ quanta) (add-one f i) 0; maximum = get_or (y ∷ maxima) (add-one f i) 0 }
    ∷ records_later x y quanta maxima (f + 1) k i)

pub flows_zipped : (quanta maxima : List ℕ) (k : ℕ) → k ≤ length quanta → k ≤ length maxima →
    each flow_text (records_from quanta maxima 0 k) ≡ each (λ p. flow_text (flow_of_pair p)) (take k (zip quanta maxima))
flows_zipped quanta maxima zero n m = refl
flows_zipped [] maxima (suc k) n m = absurd (omega arith)
flows_zipped (x ∷ quanta) [] (suc k) n m = absurd (omega arith)
flows_zipped (x ∷ quanta) (y ∷ maxima) (suc k) n m =
    ap (λ (l : List ℕ). flow_text (record { quantum = x; maximum = y }) ++ l)
    (ap (each flow_text) (records_later x y quanta maxima 0 k) ∙ flows_zipped quanta maxima k (omega arith) (omega arith))

-- ---- the events of a part, as it is gone over eight bytes at a time
module _ (x r : List ℕ) where
  byte : (n : ℕ) → n < length x → get_or x n 0 ≡ get_or (x ++ r) n 0
  byte n h = sym (get_or-append x r 0 n h)

  two : (n : ℕ) → n + 1 < length x → le2 x n ≡ le2 (x ++ r) n
  two n h = let e0 = byte n (omega arith) in let e1 = byte (n + 1) h in (λ i. e0 i + 256 * e1 i)

  event_front : (i : ℕ) → 8 * i + 8 ≤ length x → event_at x i ≡ event_at (x ++ r) i
  event_front i h =
      let low = two (8 * i) (omega arith) in
      let high = two (8 * i + 2) (omega arith) in
      let flow = two (8 * i + 4) (omega arith) in
      let size = two (8 * i + 6) (omega arith) in
      (λ j. record { tick = low j + 65536 * high j; flow = flow j; length = size j })

  events_front : (i k : ℕ) → 8 * (i + k) ≤ length x → events_from x i k ≡ events_from (x ++ r) i k
  events_front i zero h = refl
  events_front i (suc k) h =
      let first = event_front i (omega arith) in
      let more = events_front (i + 1) k (omega arith) in
      (λ j. first j ∷ more j)

-- .. of the bytes that are gone over
pub events_of : (t : List ℕ) (m : ℕ) → 8 * m ≤ length t → events_from t 0 m ≡ events_from (take (8 * m) t) 0 m
events_of t m h =
    ap (λ (l : List ℕ). events_from l 0 m) (sym (take-append-drop (8 * m) t))
    ∙ sym (events_front (take (8 * m) t) (drop (8 * m) t) 0 m (omega (arith, length-take-le (8 * m) t h)))

module _ (x r : List ℕ) (size : length x ≡ 8) where
  behind_first : drop 8 (x ++ r) ≡ r
  behind_first = drop_at x r 8 size

  events_later : (i k : ℕ) → events_from (x ++ r) (i + 1) k ≡ events_from r i k
  events_later i zero = refl
  events_later i (suc k) =
      let e : 8 * (i + 1) ≡ 8 + 8 * i = omega arith in
      let t = ap (λ (n : ℕ). le4 (x ++ r) n) e ∙ sym (le4_drop (x ++ r) 8 (8 * i)) ∙ ap (λ (l : List ℕ). le4 l (8 * i)) behind_first in
      let at : (j : ℕ) → le2 (x ++ r) (8 * (i + 1) + j) ≡ le2 r (8 * i + j) =
      λ j. let n : 8 * (i + 1) + j ≡ 8 + (8 * i + j) = omega arith in
      ap (λ (n : ℕ). le2 (x ++ r) n) n ∙ sym (le2_drop (x ++ r) 8 (8 * i + j)) ∙ ap (λ (l : List ℕ). le2 l (8 * i + j)) behind_first in
      (λ j. record { tick = t j; flow = at 4 j; length = at 6 j } ∷ events_later (i + 1) k j)

pub events_given : (s : ChunksExact ℕ) (k : ℕ) → chunks_exact_size s ≡ 8 → length (chunks_exact_rest s) ≡ 8 * k →
    AlwaysYields chunks_exact_steps (λ x. event_at x.now 0) s (events_from (chunks_exact_rest s) 0 k)
events_given s zero size long = λ x t step. absurd (omega (arith, ap length step.1.0, length-append x.now (chunks_exact_rest t), step.1.1, size, long))
events_given s (suc k) size long = (
  λ t step. absurd (omega (arith, step.1.0, size, long)),
  λ x t step.
      let eight : length x.now ≡ 8 = step.1.1 ∙ size in
      let is = step.1.0 in
      let rest = chunks_exact_rest t in
      let less : length rest ≡ 8 * k = omega (arith, ap length is, length-append x.now rest, eight, long) in (
        event_front x.now rest 0 (omega (arith, eight)) ∙ ap (λ (l : List ℕ). event_at l 0) (sym is),
        subst (λ (es : List Event). AlwaysYields chunks_exact_steps (λ x. event_at x.now 0) t es)
            (sym (events_later x.now rest eight 0 k) ∙ ap (λ (l : List ℕ). events_from l 1 k) (sym is))
            (events_given t k (step.0 ∙ size) less),
      ),
)
