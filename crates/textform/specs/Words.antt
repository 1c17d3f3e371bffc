-- What was expected where a text has a fault, in words, and the line that tells it.
use Rattle.std.specs.Prelude.{List, [], ◌∷◌, ◌++◌, ℕ}
use Prim.Native.String.{String}
use Rattle.text.specs.Spelt.{spelt}
use Rattle.text.specs.Text.{around, around_within}
use Rattle.textform.specs.declared.Want.{Want}
use Rattle.textform.specs.declared.Want.TheVariants as want

abbrev pub in_words : Want → String
in_words want.Record = "overhead, flow or event"
in_words want.Overhead = "an overhead, 0 to 64"
in_words want.Quantum = "a quantum, 1 to 65535"
in_words want.Maximum = "a maximum, 1 to 9216"
in_words want.Tick = "a tick, 0 to 4294967295"
in_words want.Flow = "a flow, 0 to 65535"
in_words want.Length = "a length, 0 to 65535"
in_words want.End = "the end of the line"
in_words want.OverheadFirst = "the overhead before the flows"
in_words want.OneOverhead = "at most one overhead"
in_words want.FlowsFirst = "a flow before any event"
in_words want.EventsOnly = "an event: flows come first"
in_words want.FewerFlows = "at most 16 flows"
in_words want.FewerEvents = "at most 1024 events"
in_words want.LaterTick = "a tick not below the one before"
in_words want.Shorter = "the text to end by byte 131072"

-- what stands behind the line's number, and a newline (10)
abbrev pub expected : Want → List ℕ
expected w = spelt ": expected " ++ spelt (in_words w) ++ 10 ∷ []

-- "one line that names the line of the fault and what was expected"
abbrev pub fault_text : ℕ → Want → List ℕ
fault_text line w = around (spelt "line ") line (expected w)

-- what is written into a buffer of this many bytes: nothing, where it has not room for any line number
abbrev pub fault_within : ℕ → Want → ℕ → List ℕ
fault_within line w room = around_within (spelt "line ") line (expected w) room
