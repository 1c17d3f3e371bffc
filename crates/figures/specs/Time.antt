-- A flow's wait in time, on a line of a given rate.
use Rattle.std.specs.Prelude.{cond, ℕ, ◌*◌, leb, eqb}
use Rattle.drr.specs.declared.Table.{Table}
use Rattle.drr.specs.Figures.{least_from, wait}

-- a second, in hundred-millionths of one
abbrev pub second : ℕ
second = 100000000

-- the wait at one bit a second, in hundred-millionths of a second
abbrev pub slowest : Table → ℕ → ℕ
slowest T i = wait T i * 8 * second

-- The wait of flow i on a line that sends `rate` bits a second: the least number of hundred-millionths of a second that is at least
-- wait × 8 / rate seconds, so that the time told is never too short. At one bit a second it is wait × 8 × 100,000,000, where the search
-- ends. With a rate of 0 nothing is ever sent and no number is enough; then it is 0.
unfoldable pub wait_time : Table → ℕ → ℕ → ℕ
wait_time T i rate = cond (eqb rate 0) 0 (least_from (λ t. leb (slowest T i) (rate * t)) 0 (slowest T i))
