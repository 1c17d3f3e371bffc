-- What the inner functions of a run ask of their callers, what one of them reads, and the test that is made before each pick.
use Rattle.std.specs.Prelude.{Bool, false, cond, List, ℕ, ◌+◌, ◌*◌, ◌≤◌, ltb, leb, length, get_or}
use Rattle.drr.specs.Limits.{most_flows, most_events}
use Rattle.runfile.specs.declared.turns.Tally.{Tally}
use Rattle.runfile.specs.File.{event_at}

-- there is room for one line more, of w numbers
abbrev pub Room : ℕ → Tally → List ℕ → Type 0
Room w y out = (w * (y.sent + y.refused) + w ≤ length out) × (y.sent + y.refused ≤ most_events)

-- flow f's number in an array of sixteen; 0 where there is no such flow
abbrev pub at_flow : List ℕ → ℕ → ℕ
at_flow numbers f = cond (ltb f most_flows) (get_or numbers f 0) 0

-- event `at` of m is there, and its tick is at or before now
abbrev pub comeb : List ℕ → ℕ → ℕ → ℕ → Bool
comeb t m at now = cond (ltb at m) (leb (event_at t at).tick now) false
