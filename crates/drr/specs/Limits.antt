-- Document 01's table of least and most, and what requests add to it, a name for each number. Where the least is 0 it needs no name.
use Rattle.std.specs.Prelude.{ℕ, ◌+◌, ◌*◌}

-- "flows n": 1 to 16
abbrev pub most_flows : ℕ
most_flows = 16

-- "quantum Q": 1 to 65,535
abbrev pub least_quantum : ℕ
least_quantum = 1

abbrev pub most_quantum : ℕ
most_quantum = 65535

-- "maximum packet l": 1 to 9,216
abbrev pub least_maximum : ℕ
least_maximum = 1

abbrev pub most_maximum : ℕ
most_maximum = 9216

-- E2: "an overhead above 64" is refused
abbrev pub most_overhead : ℕ
most_overhead = 64

-- "packets waiting in one flow": 0 to 32
abbrev pub most_waiting : ℕ
most_waiting = 32

-- "events in a run file": 0 to 1,024
abbrev pub most_events : ℕ
most_events = 1024

-- ---- what follows from them
-- what one packet is charged
abbrev pub most_charge : ℕ
most_charge = most_maximum + most_overhead

-- all quanta, and all maximum charges, of a table
abbrev pub most_quanta : ℕ
most_quanta = most_flows * most_quantum

abbrev pub most_charges : ℕ
most_charges = most_flows * most_charge

-- all that waits in one flow
abbrev pub most_bytes : ℕ
most_bytes = most_waiting * most_maximum
