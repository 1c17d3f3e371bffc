-- "A pick does this": steps 1, 2 and 3, as a relation between a line, the answer and the line after it.
use Rattle.std.specs.Prelude.{◌≡◌, true, false, cond, List, ℕ, zero, suc, ◌+◌, ◌-◌, ◌≤◌, ◌<◌, ltb, get_or, Option, Some, None}
use Rattle.drr.specs.declared.Table.{Table}
use Rattle.drr.specs.State.{Line, quantum_of, deficit_of, waiting_of, row_of, oldest, oldest_charge, with_deficit, with_row, with_visit}
use Rattle.drr.specs.State.{sum_of, shifted_of}
use Rattle.drr.specs.Answers.{Answer, idle, sent_as}

-- the flow after f, round a table of n
abbrev pub after : ℕ → ℕ → ℕ
after n f = cond (ltb (f + 1) n) (f + 1) 0

-- the first flow with a packet waiting among the k flows that follow f, round a table of n
unfoldable pub first_of : ℕ → List ℕ → ℕ → ℕ → Option ℕ
first_of n counts zero f = None
first_of n counts (suc k) f =
    cond (ltb 0 (get_or counts (after n f) 0)) (Some (after n f)) (first_of n counts k (after n f))

-- step 2: "look from the flow after the place, round the table, the place itself last, for the first flow with a packet waiting"
abbrev pub next : Table → Line → Option ℕ
next T l = first_of T.n l.counts T.n l.place

-- step 3: "Open a visit to that flow: it becomes the place, its deficit grows by its quantum"
abbrev pub open_at : Table → Line → ℕ → Line
open_at T l f = with_visit (with_deficit l f (deficit_of l f + quantum_of T f)) f true

-- "close the visit"
abbrev pub closed : Line → Line
closed l = with_visit l l.place false

-- "set the deficit to 0 if the flow is empty"
abbrev pub emptied : Line → Line
emptied l = with_deficit l l.place (cond (ltb 0 (waiting_of l l.place)) (deficit_of l l.place) 0)

-- "Sending takes the oldest length off the row and subtracts it", E2: its charge, "from the deficit. The visit stays open." E1: the sum
-- loses the length.
abbrev pub sent : Table → Line → ℕ → Line
sent T l f =
    with_row (with_deficit l f (deficit_of l f - oldest_charge T l f)) f (waiting_of l f - 1) (sum_of l f - oldest l f) (shifted_of (row_of l f))

-- steps 2 and 3, where v visits have been opened so far in this pick
pub data Looks (T : Table) : ℕ → Line → Answer → Line → Type 0 where
  -- "If there is none, the answer is idle and the place stays."
  idles : {v : ℕ} {l : Line} → next T l ≡ None → Looks T v l idle l
  -- "the count of visits grows by one. If its oldest length", E2: its oldest charge, "is at most the deficit, send it."
  sends : {v : ℕ} {l : Line} {f : ℕ} → next T l ≡ Some f → oldest_charge T l f ≤ deficit_of (open_at T l f) f →
      Looks T v l (sent_as f (oldest l f) (deficit_of (sent T (open_at T l f) f) f) (v + 1)) (sent T (open_at T l f) f)
  -- "Otherwise close the visit, keep the deficit, and go to 2."
  passes : {v : ℕ} {l : Line} {f : ℕ} {a : Answer} {t : Line} → next T l ≡ Some f → deficit_of (open_at T l f) f < oldest_charge T l f →
      Looks T (v + 1) (closed (open_at T l f)) a t → Looks T v l a t

-- "where the flow has a packet waiting and its oldest length", E2: its oldest charge, "is at most the deficit"
abbrev pub Ready : Table → Line → ℕ → Type 0
Ready T l f = (0 < waiting_of l f) × (oldest_charge T l f ≤ deficit_of l f)

-- the pick
pub data Picks (T : Table) : Line → Answer → Line → Type 0 where
  -- step 1: "If a visit is open: where the flow has a packet waiting and [its charge] is at most the deficit, send it."
  goes_on : {l : Line} → l.opened ≡ true → Ready T l l.place →
      Picks T l (sent_as l.place (oldest l l.place) (deficit_of (sent T l l.place) l.place) 0) (sent T l l.place)
  -- "Otherwise close the visit, and set the deficit to 0 if the flow is empty."
  closes : {l : Line} {a : Answer} {t : Line} → l.opened ≡ true → (Ready T l l.place → ⊥) →
      Looks T 0 (closed (emptied l)) a t → Picks T l a t
  -- "With no visit open"
  starts : {l : Line} {a : Answer} {t : Line} → l.opened ≡ false → Looks T 0 l a t → Picks T l a t
