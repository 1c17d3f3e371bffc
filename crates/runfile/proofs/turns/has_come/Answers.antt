use Rattle.std.proofs.Common.{ap, ℕ, leb, lt-ltb}
use Rattle.runfile.proofs.turns.has_come.Goals as goal

-- event `at` is there: its tick decides
pub returns-then-at-m : goal.returns-then-at-m
returns-then-at-m c =
    let a = c.args in
    rw (lt-ltb a.at a.m c.if-at-m.true) (ap (λ (tick : ℕ). leb tick a.tick) c.le4.ensures.0)
