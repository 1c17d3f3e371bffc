-- The line that tells a fault.
use mathlib.Core.Path.{◌≡◌, refl}
use Prim.Native.Nat.{ℕ}
use Rattle.text.specs.Text.{around_within}
use Rattle.textform.specs.declared.Want.{Want}
use Rattle.textform.specs.declared.Want.TheVariants as want
use Rattle.textform.specs.Words.{fault_text, fault_within}

-- 80 bytes are room for every fault
pub fits : (line : ℕ) (w : Want) → fault_within line w 80 ≡ fault_text line w
unfolding around_within
fits line want.Record = refl
fits line want.Overhead = refl
fits line want.Quantum = refl
fits line want.Maximum = refl
fits line want.Tick = refl
fits line want.Flow = refl
fits line want.Length = refl
fits line want.End = refl
fits line want.OverheadFirst = refl
fits line want.OneOverhead = refl
fits line want.FlowsFirst = refl
fits line want.EventsOnly = refl
fits line want.FewerFlows = refl
fits line want.FewerEvents = refl
fits line want.LaterTick = refl
fits line want.Shorter = refl
