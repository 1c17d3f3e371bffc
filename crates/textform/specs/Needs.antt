-- What the inner functions of the text form answer: a number read from a line, and the records as they are written, line by line.
use Rattle.std.specs.Prelude.{◌≡◌, List, [], ◌∷◌, ℕ, ◌≤◌, length, replicate, Option, Some, None, Result, Ok, Err}
use Rattle.std.proofs.lemmas.List.Edits.{sets}
use Rattle.runfile.specs.File.{header_size}
use Rattle.textform.specs.declared.Want.{Want}
use Rattle.textform.specs.declared.Fault.{Fault}
use Rattle.textform.specs.declared.Made.{Made}
use Rattle.textform.specs.declared.progress.Progress.{Progress}
use Rattle.textform.specs.Grammar.{words_of, first, others, field}
use Rattle.textform.specs.Made.{Draft, Step, goes, stops, Outcome, made, fault, record_bytes, most_made, made_in}

-- the first of these words is n, in its range, and `rest` has the others
pub record Reads (words : List (List ℕ)) (least most n : ℕ) (rest : List ℕ) : Type 0 where
  pub number_is : field least most (first words) ≡ Some n
  pub number_most : n ≤ most
  pub number_behind : words_of rest ≡ others words

abbrev pub zeros : List ℕ
zeros = replicate most_made 0

-- the overhead that was said, if one was
abbrev pub said : List ℕ → Option ℕ
said [] = None
said (o ∷ os) = Some o

-- the overhead, the counts and the last tick are those of the draft, and the file has its records behind the place of the header, over
-- zeros
pub record Holds (c : Progress) (d : Draft) : Type 0 where
  pub overhead_is : c.overhead ≡ said d.overheads
  pub flows_are : c.flows ≡ length d.flows
  pub events_are : c.events ≡ length d.events
  pub last_is : c.last ≡ d.last
  pub file_is : c.file ≡ sets zeros header_size (record_bytes d.flows d.events)

-- a line judged: the draft after it, which is held at exit, or what was expected
pub record Gone (c : Progress) (s : Step) : Type 0 where
  pub next : Draft
  pub goes_to : s ≡ goes next
  pub next_held : Holds c next

abbrev pub Stepped : Progress → (Draft → Step) → Progress → Result (Unit {0}) Want → Type 0
Stepped c judge c' (Ok u) = (d : Draft) → Holds c d → Gone c' (judge d)
Stepped c judge c' (Err w) = (d : Draft) → Holds c d → judge d ≡ stops w

-- what is made of a draft
abbrev pub Finished : Progress → Made → Type 0
Finished c r = (d : Draft) → Holds c d → r ≡ made_in (made d)

-- what becomes of a text: its records, held, or its fault
abbrev pub Becomes : Outcome → Result Progress Fault → Type 0
Becomes o (Ok c) = (d : Draft) × (o ≡ made d) × Holds c d
Becomes o (Err f) = o ≡ fault f.line f.want
