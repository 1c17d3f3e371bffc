-- Algorithm 1 of document 000, section III, each line under its printed number (7 to 9 are a comment), and what document 01 decides
-- where it is silent. The listing's flow i is flow i - 1 here.
use Rattle.std.specs.Prelude.{◌≡◌, cond, false, List, [], ◌∷◌, ℕ, zero, suc, ◌+◌, ◌-◌, ◌≤◌, ◌<◌, get_or, set, replicate}
use Rattle.drr.specs.declared.Table.{Table}
use Rattle.drr.specs.declared.State.{State}
use Rattle.drr.specs.State.{Line, quantum_of, charge, shifted_of, line_in}
use Rattle.drr.specs.Answers.{Answer, idle, sent_as}
use Rattle.drr.specs.Arrival.{arrival_of}
use Rattle.drr.specs.Pick.{after}
use Rattle.drr.specs.Floor.{Call, arrives, picks}

-- "Data: Per flow deficit: DC[1..n]", and the queues; empty(i) is that the count is 0
pub record Memory : Type 0 where
  pub deficits : List ℕ
  pub counts : List ℕ
  pub rows : List (List ℕ)

abbrev pub DC : Memory → ℕ → ℕ
DC m i = get_or m.deficits i 0

abbrev pub count : Memory → ℕ → ℕ
count m i = get_or m.counts i 0

abbrev pub queue : Memory → ℕ → List ℕ
queue m i = get_or m.rows i []

abbrev pub head : Memory → ℕ → ℕ
head m i = get_or (queue m i) 0 0

-- DC[i] ← x
abbrev pub assign : Memory → ℕ → ℕ → Memory
assign m i x = record { deficits = set m.deficits i x; counts = m.counts; rows = m.rows }

abbrev pub remove_head : Memory → ℕ → Memory
remove_head m i =
    record { deficits = m.deficits; counts = set m.counts i (count m i - 1); rows = set m.rows i (shifted_of (queue m i)) }

-- where the listing stands: before this line, with this i
pub data Point : Type 0 where
  line6 : ℕ → Point
  line12 : ℕ → Point
  line18 : ℕ → Point

-- 1 for i= 1 to n do
-- 2   DC[i] ← 0 ;
-- 3 end                  the queues are empty, as in 01's fresh state
abbrev pub start_memory : Memory
start_memory = record { deficits = replicate 16 0; counts = replicate 16 0; rows = replicate 16 (replicate 32 0) }

-- 4 while True do
-- 5   for i= 1 to n do      from i to `after n i`, round the table
abbrev pub start_point : Point
start_point = line6 0

-- The `if` of line 6 has no `end` in print. Lines 18 to 20 stand outside it, as they are indented, or inside it, as the text can be read.
pub data Reading : Type 0 where
  outside : Reading
  inside : Reading

-- where line 6 leads with an empty queue
abbrev pub past : Reading → ℕ → ℕ → Point
past outside n i = line18 i
past inside n i = line6 (after n i)

-- 12 (not empty(i)) and
-- 13   (size(head(i)) ≤ DC[i])      a packet's size is its charge
abbrev pub Fits : Table → Memory → ℕ → Type 0
Fits T m i = (0 < count m i) × (charge T (head m i) ≤ DC m i)

-- 15 DC[i] ← DC[i] - size(head(i)) ;
-- 16 removeHead(i) ;
abbrev pub charged : Table → Memory → ℕ → Memory
charged T m i = remove_head (assign m i (DC m i - charge T (head m i))) i

-- `Runs T r v k p m a q t`: from p and m on the listing's next packet is a's, or a is 01's idle, and it then stands at q with t. So far
-- v prints since the last packet, which are 01's visits; k more queues found empty in a row make a whole round.
pub data Runs (T : Table) (r : Reading) : ℕ → ℕ → Point → Memory → Answer → Point → Memory → Type 0 where
  -- 01: with every queue empty "the answer is idle and the place stays"
  idles : {v i : ℕ} {m : Memory} → Runs T r v zero (line6 i) m idle (line6 i) m
  -- 6  if not empty(i) then
  -- 10   print(now(), i);
  -- 11   DC[i] ← DC[i] + Q_i ;
  selects : {v k i : ℕ} {m t : Memory} {a : Answer} {q : Point} → 0 < count m i →
      Runs T r (v + 1) T.n (line12 i) (assign m i (DC m i + quantum_of T i)) a q t → Runs T r v (suc k) (line6 i) m a q t
  skips : {v k i : ℕ} {m t : Memory} {a : Answer} {q : Point} → count m i ≡ 0 →
      Runs T r v k (past r T.n i) m a q t → Runs T r v (suc k) (line6 i) m a q t
  -- 12   while (not empty(i)) and (size(head(i)) ≤ DC[i]) do
  -- 14     send(head(i)) ;
  sends : {v k i : ℕ} {m : Memory} → Fits T m i →
      Runs T r v k (line12 i) m (sent_as i (head m i) (DC (charged T m i) i) v) (line12 i) (charged T m i)
  -- 17   end
  leaves : {v k i : ℕ} {m t : Memory} {a : Answer} {q : Point} → (Fits T m i → ⊥) →
      Runs T r v k (line18 i) m a q t → Runs T r v k (line12 i) m a q t
  -- 18 if empty(i) then
  -- 19   DC[i] ← 0
  zeroes : {v k i : ℕ} {m t : Memory} {a : Answer} {q : Point} → count m i ≡ 0 →
      Runs T r v k (line6 (after T.n i)) (assign m i 0) a q t → Runs T r v k (line18 i) m a q t
  -- 20 end
  -- 21 end, 22 end: on to the next i
  keeps : {v k i : ℕ} {m t : Memory} {a : Answer} {q : Point} → 0 < count m i →
      Runs T r v k (line6 (after T.n i)) m a q t → Runs T r v k (line18 i) m a q t

-- ---- beside document 01: with a visit open the listing stands at the while's test, with none before the flow after the place
abbrev pub memory_of : Line → Memory
memory_of l = record { deficits = l.deficits; counts = l.counts; rows = l.rows }

abbrev pub point_of : Table → Line → Point
point_of T l = cond l.opened (line12 l.place) (line6 (after T.n l.place))

abbrev pub memory_in : State → Memory
memory_in s = memory_of (line_in s.line)

abbrev pub point_in : State → Point
point_in s = point_of s.table (line_in s.line)

-- 01's arrival at the queues: neither its answer nor the queues after it depend on place, visit or sums
abbrev pub queues : Memory → Line
queues m = record {
  deficits = m.deficits;
  counts = m.counts;
  sums = replicate 16 0;
  rows = m.rows;
  place = 0;
  opened = false;
}

-- 01 books when the line is free: packets come where the listing has not begun, has sent one, or is idle
pub data Serves (T : Table) (r : Reading) : Point → Memory → List Call → List Answer → Point → Memory → Type 0 where
  ends : {p : Point} {m : Memory} → Serves T r p m [] [] p m
  books : {p q : Point} {m t : Memory} {f x : ℕ} {cs : List Call} {answers : List Answer} →
      Serves T r p (memory_of (arrival_of T (queues m) f x).line) cs answers q t →
      Serves T r p m (arrives f x ∷ cs) ((arrival_of T (queues m) f x).answer ∷ answers) q t
  runs : {p o q : Point} {m w t : Memory} {cs : List Call} {a : Answer} {answers : List Answer} →
      Runs T r 0 T.n p m a o w → Serves T r o w cs answers q t → Serves T r p m (picks ∷ cs) (a ∷ answers) q t
