-- The text form of a run file: "one record a line, readable without a manual". A text is the list of its bytes.
use Rattle.std.specs.Prelude.{Bool, cond, ◌&&◌, ◌||◌, List, [], ◌∷◌, ◌++◌, ℕ, eqb, leb, Option, Some, None, Result, Ok, Err}
use Rattle.drr.specs.Limits.{least_quantum, most_quantum, least_maximum, most_maximum, most_overhead}
use Rattle.text.specs.Spelt.{spelt}
use Rattle.text.specs.Text.{same, word_of}
use Rattle.textform.specs.declared.Want.{Want}
use Rattle.textform.specs.declared.Want.TheVariants as want
use Rattle.textform.specs.declared.Item.{Item}
use Rattle.textform.specs.declared.Item.TheVariants.{Nothing, OverheadOf, FlowOf, EventOf}

-- ---- lines and words
-- the lines of a text, parted by newlines (10), where w has been read of the line at hand; what follows the last newline is a line too
abbrev pub lines_from : List ℕ → List ℕ → List (List ℕ)
lines_from w [] = w ∷ []
lines_from w (b ∷ bs) = cond (eqb b 10) (w ∷ lines_from [] bs) (lines_from (w ++ b ∷ []) bs)

abbrev pub lines_of : List ℕ → List (List ℕ)
lines_of text = lines_from [] text

-- "`#` comments": what stands before the first # (35) of a line
abbrev pub uncommented : List ℕ → List ℕ
uncommented [] = []
uncommented (b ∷ bs) = cond (eqb b 35) [] (b ∷ uncommented bs)

-- words are parted by spaces (32), tabs (9) and carriage returns (13)
abbrev pub blankb : ℕ → Bool
blankb b = eqb b 32 || eqb b 9 || eqb b 13

-- a word that has been read, if it has a byte, before others
abbrev pub ended : List ℕ → List (List ℕ) → List (List ℕ)
ended [] ws = ws
ended (b ∷ bs) ws = (b ∷ bs) ∷ ws

-- the words of a line, where w has been read of the word at hand
abbrev pub words_from : List ℕ → List ℕ → List (List ℕ)
words_from w [] = ended w []
words_from w (b ∷ bs) = cond (blankb b) (ended w (words_from [] bs)) (words_from (w ++ b ∷ []) bs)

abbrev pub words_of : List ℕ → List (List ℕ)
words_of line = words_from [] line

-- the first word, and those behind it; past the last word there are words without a byte
abbrev pub first : List (List ℕ) → List ℕ
first [] = []
first (w ∷ ws) = w

abbrev pub others : List (List ℕ) → List (List ℕ)
others [] = []
others (w ∷ ws) = ws

-- ---- records
-- the words that a record begins with
abbrev pub overhead_word : List ℕ
overhead_word = spelt "overhead"

abbrev pub flow_word : List ℕ
flow_word = spelt "flow"

abbrev pub event_word : List ℕ
event_word = spelt "event"

-- a number from `least` to `most`, in decimal digits alone
abbrev pub in_range : ℕ → ℕ → Option ℕ → Option ℕ
in_range least most (Some n) = cond (leb least n && leb n most) (Some n) None
in_range least most None = None

abbrev pub field : ℕ → ℕ → List ℕ → Option ℕ
field least most w = in_range least most (word_of w)

-- a field that is there, or what was expected in its place
abbrev pub given : Option ℕ → Want → (ℕ → Result Item Want) → Result Item Want
given (Some n) w then = then n
given None w then = Err w

-- nothing behind the last field
abbrev pub nothing_more : List ℕ → Item → Result Item Want
nothing_more [] item = Ok item
nothing_more (b ∷ bs) item = Err want.End

-- the most that a run file's fields of four and of two bytes hold
abbrev pub most_of4 : ℕ
most_of4 = 4294967295

abbrev pub most_of2 : ℕ
most_of2 = 65535

-- `overhead BYTES`: the words behind `overhead`
abbrev pub overhead_item : List (List ℕ) → Result Item Want
overhead_item ws =
    given (field 0 most_overhead (first ws)) want.Overhead (λ o.
    nothing_more (first (others ws)) (OverheadOf o))

-- `flow QUANTUM MAXIMUM`: the words behind `flow`
abbrev pub flow_item : List (List ℕ) → Result Item Want
flow_item ws =
    given (field least_quantum most_quantum (first ws)) want.Quantum (λ q.
    given (field least_maximum most_maximum (first (others ws))) want.Maximum (λ l.
    nothing_more (first (others (others ws))) (FlowOf q l)))

-- `event TICK FLOW LENGTH`: the words behind `event`. A flow or a length that an arrival refuses may stand here, as in a run file.
abbrev pub event_item : List (List ℕ) → Result Item Want
event_item ws =
    given (field 0 most_of4 (first ws)) want.Tick (λ t.
    given (field 0 most_of2 (first (others ws))) want.Flow (λ f.
    given (field 0 most_of2 (first (others (others ws)))) want.Length (λ n.
    nothing_more (first (others (others (others ws)))) (EventOf t f n))))

-- what these words say, or what was expected
abbrev pub item_in : List (List ℕ) → Result Item Want
item_in [] = Ok Nothing
item_in (w ∷ ws) =
    cond (same w overhead_word) (overhead_item ws)
    (cond (same w flow_word) (flow_item ws)
    (cond (same w event_word) (event_item ws)
    (Err want.Record)))

-- what a line says
unfoldable pub item_of : List ℕ → Result Item Want
item_of line = item_in (words_of (uncommented line))
