-- The pick as a function, which contracts name. On every sound line it is the one answer of the relation in Pick.antt
-- (proofs/One.antt).
use Rattle.std.specs.Prelude.{Bool, true, false, ◌&&◌, ℕ, zero, suc, ◌+◌, ltb, leb, Option, Some, None}
use Rattle.drr.specs.declared.Table.{Table}
use Rattle.drr.specs.declared.State.{State}
use Rattle.drr.specs.Limits.{most_charges}
use Rattle.drr.specs.State.{Line, deficit_of, waiting_of, oldest, oldest_charge, line_in}
use Rattle.drr.specs.Answers.{idle, sent_as, pick_refused, Outcome, outcome, Reply, guarded}
use Rattle.drr.specs.Pick.{next, open_at, closed, emptied, sent}

-- flow f's oldest packet is sent, with v visits opened
abbrev pub sending : Table → Line → ℕ → ℕ → Outcome
sending T l f v = outcome (sent_as f (oldest l f) (deficit_of (sent T l f) f) v) (sent T l f)

-- step 3's end, in the visit just opened to f, the v'th
abbrev pub serve : Table → Bool → ℕ → Line → ℕ → (Line → Outcome) → Outcome
serve T true v l f goto2 = sending T l f v
serve T false v l f goto2 = goto2 (closed l)

-- steps 2 and 3 once, with v visits opened before; `goto2` is what a return to step 2 gives
abbrev pub turn : Table → ℕ → Line → Option ℕ → (Line → Outcome) → Outcome
turn T v l None goto2 = outcome idle l
turn T v l (Some f) goto2 = serve T (leb (oldest_charge T l f) (deficit_of (open_at T l f) f)) (v + 1) (open_at T l f) f goto2

-- steps 2 and 3, with v visits opened before, and at most k more. On a sound line this count never matters: `look_unfolds`, in
-- proofs/One.antt, is the equation without it.
unfoldable pub look_for : Table → ℕ → ℕ → Line → Outcome
look_for T zero v l = outcome idle l
look_for T (suc k) v l = turn T v l (next T l) (look_for T k (v + 1))

-- more visits than any pick opens: sixteen flows, of each at most 9,280
abbrev pub enough : ℕ
enough = most_charges + 1

abbrev pub look : Table → ℕ → Line → Outcome
look T = look_for T enough

-- step 1, by whether the visit's flow can send
abbrev pub carry_on : Table → Bool → Line → Outcome
carry_on T true l = sending T l l.place 0
carry_on T false l = look T 0 (closed (emptied l))

abbrev pub readyb : Table → Line → ℕ → Bool
readyb T l f = ltb 0 (waiting_of l f) && leb (oldest_charge T l f) (deficit_of l f)

abbrev pub pick_at : Table → Bool → Line → Outcome
pick_at T true l = carry_on T (readyb T l l.place) l
pick_at T false l = look T 0 l

abbrev pub pick_of : Table → Line → Outcome
pick_of T l = pick_at T l.opened l

-- the public pick, of any state
abbrev pub pick_reply : State → Reply
pick_reply s = guarded s (pick_refused 8) (pick_of s.table (line_in s.line))
