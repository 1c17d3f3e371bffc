-- Document 000's algorithm, as it is listed there, sends what document 01's picks send, and stands where they stand.
use mathlib.Core.Path.{◌≡◌, refl, sym, ap, subst, subst⁻¹, ◌∙◌}
use mathlib.Core.Bool.{Bool, true, false, cond, ◌&&◌}
use mathlib.Core.List.{List, [], ◌∷◌}
use mathlib.Core.Logic.{⊎_elim}
use Prim.Native.Nat.{ℕ, zero, suc, ◌+◌, ◌-◌, ◌≤◌, ◌<◌}
use native.Mathlib.Omega.{arith}
use borrow.Author.Tests.{ltb-true, ltb-false, le-ltb}
use lib.Dec.{ltb, leb, eqb}
use lib.ListN.{set}
use lib.Seq.{set-get_or}
use Rattle.std.specs.Prelude.{Some, None}
use Rattle.drr.specs.Limits.{most_waiting}
use Rattle.drr.specs.declared.Table.{Table}
use Rattle.drr.specs.declared.State.{State}
use Rattle.drr.specs.State.{Line, maximum_of, deficit_of, waiting_of, line_in, state_from, fresh_line, fresh_state}
use Rattle.drr.specs.Facts.{Sound, SoundState}
use Rattle.drr.specs.Answers.{Answer, idle, accepted, arrival_refused, Outcome, outcome}
use Rattle.drr.specs.Arrival.{put, arrival_of}
use Rattle.drr.specs.Pick.{after, first_of, closed, emptied, Looks, Picks}
use Rattle.drr.specs.Pick.Looks.{idles as finds_none, sends as serves, passes}
use Rattle.drr.specs.Pick.Picks.{goes_on, closes, starts}
use Rattle.drr.specs.Computed.{pick_of}
use Rattle.drr.specs.Floor.{Call, arrives, picks, after_calls, answers_to, line_after}
use Rattle.drr.specs.Paper.{Memory, assign, Point, line6, line12, line18, Reading, outside, inside, past, Runs}
use Rattle.drr.specs.Paper.{memory_of, point_of, memory_in, point_in, start_memory, start_point, queues, Serves}
use Rattle.drr.specs.Paper.Runs.{idles, selects, skips, sends, leaves, zeroes, keeps}
use Rattle.drr.specs.Paper.Serves.{ends, books, runs}
use Rattle.drr.proofs.Search.{after_in}
use Rattle.drr.proofs.Steps.{found_in, visit_passes, on_ends}
use Rattle.drr.proofs.One.{pick_is}
use Rattle.drr.proofs.Keeps.{arrival_keeps, pick_keeps}
use Rattle.drr.proofs.States.{line_back, state_back}
use Rattle.drr.proofs.Demand3.{answers_of, same}
use Rattle.drr.proofs.Meaning.{same_sums}

-- ---- one run at most
pub runs_one : {T : Table} {r : Reading} {v k : ℕ} {p q o : Point} {m t u : Memory} {a b : Answer} → Runs T r v k p m a q t →
    Runs T r v k p m b o u → (a ≡ b) × (q ≡ o) × (t ≡ u)
runs_one idles idles = (refl, refl, refl)
runs_one (selects w j) (selects x k) = runs_one j k
runs_one (selects w j) (skips x k) = absurd (omega (arith, w, x))
runs_one (skips w j) (selects x k) = absurd (omega (arith, w, x))
runs_one (skips w j) (skips x k) = runs_one j k
runs_one (sends w) (sends x) = (refl, refl, refl)
runs_one (sends w) (leaves x k) = absurd (x w)
runs_one (leaves w j) (sends x) = absurd (w x)
runs_one (leaves w j) (leaves x k) = runs_one j k
runs_one (zeroes w j) (zeroes x k) = runs_one j k
runs_one (zeroes w j) (keeps x k) = absurd (omega (arith, w, x))
runs_one (keeps w j) (zeroes x k) = absurd (omega (arith, w, x))
runs_one (keeps w j) (keeps x k) = runs_one j k

-- ---- a whole round comes back
abbrev onward : ℕ → ℕ → ℕ → ℕ
onward n zero i = i
onward n (suc k) i = onward n k (after n i)

rounds : (n k i : ℕ) → i < n → k ≤ n → (i + k < n → onward n k i ≡ i + k) × (n ≤ i + k → onward n k i + n ≡ i + k)
rounds n zero i h e = (λ _. omega arith, λ x. absurd (omega arith))
rounds n (suc k) i h e = go (ltb (i + 1) n) refl (λ j l. rounds n k j l (omega arith))
  where
    Round : ℕ → ℕ → ℕ → Type 0
    Round k i o = (i + k < n → o ≡ i + k) × (n ≤ i + k → o + n ≡ i + k)

    go : (b : Bool) → ltb (i + 1) n ≡ b → ((j : ℕ) → j < n → Round k j (onward n k j)) → Round (suc k) i (onward n k (cond b (i + 1) 0))
    go true t on =
        let z = on (i + 1) (ltb-true (i + 1) n t) in
        (λ x. z.0 (omega arith) ∙ omega arith, λ x. z.1 (omega arith) ∙ omega arith)
    go false t on =
        let y = ltb-false (i + 1) n t in
        (λ x. absurd (omega (arith, y)), λ x. omega (arith, y, (on 0 (omega arith)).0 (omega arith)))

round_back : (n f : ℕ) → onward n n (after n f) ≡ after n f
round_back zero f = refl
round_back (suc n) f =
    let i = after (suc n) f in
    let z = (rounds (suc n) (suc n) i (after_in (suc n) f (omega arith)) (omega arith)).1 (omega arith) in
    omega (arith, z)

-- ---- past empty queues, with no visit open
module _ {T : Table} (r : Reading) (l : Line) (ok : Sound T l) (off : l.opened ≡ false) where
  abbrev From : ℕ → ℕ → ℕ → Answer → Point → Memory → Type 0
  From v k i a q t = Runs T r v k (line6 i) (memory_of l) a q t

  -- line 19 finds 0 where the queue was empty at line 6
  unseen : (i : ℕ) → i < T.n → waiting_of l i ≡ 0 → assign (memory_of l) i 0 ≡ memory_of l
  unseen i h e =
      let none = ((ok.flows i (omega (arith, ok.flows_few))).credit h).empty_zero (ap (λ (b : Bool). b && eqb l.place i) off) e in
      ap (λ (ds : List ℕ). record { deficits = ds; counts = l.counts; rows = l.rows })
      (ap (set l.deficits i) (sym none) ∙ set-get_or l.deficits i 0)

  passing : {v k : ℕ} (i : ℕ) {a : Answer} {q : Point} {t : Memory} → i < T.n → waiting_of l i ≡ 0 → From v k (after T.n i) a q t →
      From v (suc k) i a q t
  passing {v} {k} i {a} {q} {t} h e j = skips e (go r j)
    where
      go : (r : Reading) → Runs T r v k (line6 (after T.n i)) (memory_of l) a q t → Runs T r v k (past r T.n i) (memory_of l) a q t
      go outside j = zeroes e (subst⁻¹ (λ (m : Memory). Runs T outside v k (line6 (after T.n i)) m a q t) (unseen i h e) j)
      go inside j = j

  -- to the first that is not empty
  to_found : (v k f g : ℕ) {a : Answer} {q : Point} {t : Memory} → k ≤ T.n → first_of T.n l.counts k f ≡ Some g →
      ((j : ℕ) → From v (suc j) g a q t) → From v k (after T.n f) a q t
  unfolding first_of
  to_found v zero f g h e on = absurd (let z : ◌≡◌ {A = ℕ} 0 1 = cc in omega arith)
  to_found v (suc k) f g {a} {q} {t} h e on = go (ltb 0 (waiting_of l i)) refl e (λ d. to_found v k i g (omega arith) d on)
    where
      i : ℕ
      i = after T.n f

      go : (b : Bool) → ltb 0 (waiting_of l i) ≡ b → cond b (Some i) (first_of T.n l.counts k i) ≡ Some g →
          (first_of T.n l.counts k i ≡ Some g → From v k (after T.n i) a q t) → From v (suc k) i a q t
      go true p e rest = let here : i ≡ g = cc in subst⁻¹ (λ (x : ℕ). From v (suc k) x a q t) here (on k)
      go false p e rest = passing i (after_in T.n f (omega arith)) (omega (arith, ltb-false 0 (waiting_of l i) p)) (rest e)

  -- or round the table
  to_none : (v k f : ℕ) → k ≤ T.n → first_of T.n l.counts k f ≡ None →
      From v k (after T.n f) idle (line6 (onward T.n k (after T.n f))) (memory_of l)
  unfolding first_of
  to_none v zero f h e = idles
  to_none v (suc k) f h e = go (ltb 0 (waiting_of l i)) refl e (λ d. to_none v k i (omega arith) d)
    where
      i : ℕ
      i = after T.n f

      end : Point
      end = line6 (onward T.n k (after T.n i))

      go : (b : Bool) → ltb 0 (waiting_of l i) ≡ b → cond b (Some i) (first_of T.n l.counts k i) ≡ None →
          (first_of T.n l.counts k i ≡ None → From v k (after T.n i) idle end (memory_of l)) →
          From v (suc k) i idle end (memory_of l)
      go true p e rest = absurd (let z : ◌≡◌ {A = ℕ} 0 1 = cc in omega arith)
      go false p e rest = passing i (after_in T.n f (omega arith)) (omega (arith, ltb-false 0 (waiting_of l i) p)) (rest e)

-- ---- steps 2 and 3
looks_run : {T : Table} (r : Reading) {v : ℕ} {l : Line} {a : Answer} {t : Line} → Looks T v l a t → Sound T l → l.opened ≡ false →
    Runs T r v T.n (line6 (after T.n l.place)) (memory_of l) a (point_of T t) (memory_of t)
looks_run {T} r {v} (finds_none {l = l} e) ok off =
    rw off (subst (λ (i : ℕ). Runs T r v T.n (line6 (after T.n l.place)) (memory_of l) idle (line6 i) (memory_of l))
    (round_back T.n l.place) (to_none r l ok off v T.n l.place (omega arith) e))
looks_run {T} r {v} (serves {l = l} {f = f} e enough) ok off =
    let w = (found_in T l f e).1 in
    to_found r l ok off v T.n l.place f (omega arith) e (λ j. selects w (sends (w, enough)))
looks_run {T} r {v} (passes {l = l} {f = f} e short j) ok off =
    let w = (found_in T l f e).1 in
    let on = looks_run r j (visit_passes T l ok f e off short) refl in
    to_found r l ok off v T.n l.place f (omega arith) e
    (λ _. selects w (leaves (λ fits. omega (arith, fits.1, short)) (keeps w on)))

-- ---- a pick
-- line 18 in an open visit that cannot go on
closing : {T : Table} (r : Reading) (l : Line) {a : Answer} {q : Point} {t : Memory} →
    Runs T r 0 T.n (line6 (after T.n l.place)) (memory_of (closed (emptied l))) a q t →
    Runs T r 0 T.n (line18 l.place) (memory_of l) a q t
closing {T} r l {a} {q} {t} = go (ltb 0 (waiting_of l l.place)) refl
  where
    at : ℕ → Memory
    at d = assign (memory_of l) l.place d

    go : (b : Bool) → ltb 0 (waiting_of l l.place) ≡ b →
        Runs T r 0 T.n (line6 (after T.n l.place)) (at (cond b (deficit_of l l.place) 0)) a q t →
        Runs T r 0 T.n (line18 l.place) (memory_of l) a q t
    go true p j =
        keeps (ltb-true _ _ p) (subst (λ (ds : List ℕ). Runs T r 0 T.n (line6 (after T.n l.place))
        (record { deficits = ds; counts = l.counts; rows = l.rows }) a q t) (set-get_or l.deficits l.place 0) j)
    go false p j =
        let none : waiting_of l l.place ≡ 0 = omega (arith, ltb-false 0 (waiting_of l l.place) p) in
        zeroes none j

picks_run : {T : Table} (r : Reading) {l : Line} {a : Answer} {t : Line} → Picks T l a t → Sound T l →
    Runs T r 0 T.n (point_of T l) (memory_of l) a (point_of T t) (memory_of t)
picks_run r (goes_on on ready) ok = rw on (sends ready)
picks_run {T} r (closes {l = l} on stuck j) ok = rw on (leaves stuck (closing r l (looks_run r j (on_ends T l ok on stuck) refl)))
picks_run r (starts off j) ok = rw off (looks_run r j ok off)

-- from where a sound line stands the listing runs to the pick's answer, and stands where the pick's line does ..
pub algorithm_picks : (T : Table) (l : Line) → Sound T l → (r : Reading) →
    Runs T r 0 T.n (point_of T l) (memory_of l) (pick_of T l).answer (point_of T (pick_of T l).line) (memory_of (pick_of T l).line)
algorithm_picks T l ok r = picks_run r (pick_is T l ok) ok

-- .. and to no other
pub algorithm_no_other : (T : Table) (l : Line) → Sound T l → (r : Reading) (a : Answer) (q : Point) (t : Memory) →
    Runs T r 0 T.n (point_of T l) (memory_of l) a q t →
    (a ≡ (pick_of T l).answer) × (q ≡ point_of T (pick_of T l).line) × (t ≡ memory_of (pick_of T l).line)
algorithm_no_other T l ok r a q t j = runs_one j (algorithm_picks T l ok r)

-- ---- any calls
serves_one : {T : Table} {r : Reading} {p q o : Point} {m t u : Memory} {cs : List Call} {xs ys : List Answer} →
    Serves T r p m cs xs q t → Serves T r p m cs ys o u → (xs ≡ ys) × (q ≡ o) × (t ≡ u)
serves_one ends ends = (refl, refl, refl)
serves_one {T} (books {m = m} {f = f} {x = x} j) (books k) =
    let z = serves_one j k in
    (ap (λ (xs : List Answer). (arrival_of T (queues m) f x).answer ∷ xs) z.0, z.1, z.2)
serves_one {T} {r} {o = o} {u = u} (runs {o = c} {w = w} {cs = cs} i j) (runs {o = d} {w = x} {answers = ys} h k) =
    let same = runs_one i h in
    let k' : Serves T r c w cs ys o u =
    subst⁻¹ (λ (y : Point). Serves T r y w cs ys o u) same.1 (subst⁻¹ (λ (y : Memory). Serves T r d y cs ys o u) same.2 k) in
    let z = serves_one j k' in
    (λ n. same.0 n ∷ z.0 n, z.1, z.2)

-- an arrival's answer and the queues after it depend on neither place, visit nor sums; and it leaves the point
record Anywhere (T : Table) (l : Line) (z w : Outcome) : Type 0 where
  told : w.answer ≡ z.answer
  left : memory_of w.line ≡ memory_of z.line
  stays : point_of T z.line ≡ point_of T l

arrives_anywhere : (T : Table) (l : Line) (f x : ℕ) → Anywhere T l (arrival_of T l f x) (arrival_of T (queues (memory_of l)) f x)
unfolding arrival_of
arrives_anywhere T l f x = go (leb T.n f) (eqb x 0) (ltb (maximum_of T f) x) (leb most_waiting (waiting_of l f))
  where
    by : Bool → Bool → Bool → Bool → Line → Outcome
    by a b c d l =
        cond a (outcome (arrival_refused 1) l) (cond b (outcome (arrival_refused 2) l) (cond c (outcome (arrival_refused 3) l)
        (cond d (outcome (arrival_refused 4) l) (outcome accepted (put l f x)))))

    go : (a b c d : Bool) → Anywhere T l (by a b c d l) (by a b c d (queues (memory_of l)))
    go true b c d = record { told = refl; left = refl; stays = refl }
    go false true c d = record { told = refl; left = refl; stays = refl }
    go false false true d = record { told = refl; left = refl; stays = refl }
    go false false false true = record { told = refl; left = refl; stays = refl }
    go false false false false = record { told = refl; left = refl; stays = refl }

calls_run : (T : Table) (r : Reading) (l : Line) → Sound T l → (cs : List Call) →
    Serves T r (point_of T l) (memory_of l) cs (answers_of T l cs) (point_of T (line_after T l cs)) (memory_of (line_after T l cs))
calls_run T r l ok [] = ends
calls_run T r l ok (picks ∷ cs) = runs (algorithm_picks T l ok r) (calls_run T r (pick_of T l).line (pick_keeps T l ok) cs)
calls_run T r l ok (arrives f x ∷ cs) = go (calls_run T r (arrival_of T l f x).line (arrival_keeps T l ok f x) cs)
  where
    z : Outcome
    z = arrival_of T l f x

    go : {xs : List Answer} {q : Point} {t : Memory} → Serves T r (point_of T z.line) (memory_of z.line) cs xs q t →
        Serves T r (point_of T l) (memory_of l) (arrives f x ∷ cs) (z.answer ∷ xs) q t
    go {xs} {q} {t} rest =
        let here = arrives_anywhere T l f x in
        let stays : Serves T r (point_of T l) (memory_of z.line) cs xs q t =
        subst (λ (p : Point). Serves T r p (memory_of z.line) cs xs q t) here.stays rest in
        subst (λ (b : Answer). Serves T r (point_of T l) (memory_of l) (arrives f x ∷ cs) (b ∷ xs) q t) here.told
        (books (subst⁻¹ (λ (m : Memory). Serves T r (point_of T l) m cs xs q t) here.left stays))

-- ---- the same on states, by the public calls
abbrev ServesAs : Reading → List Call → State → Type 0
ServesAs r cs s =
    Serves s.table r (point_in s) (memory_in s) cs (answers_to s cs) (point_in (after_calls s cs)) (memory_in (after_calls s cs))

serves_as : (T : Table) (l : Line) → Sound T l → (r : Reading) (cs : List Call) → ServesAs r cs (state_from T l)
serves_as T l ok r cs =
    let s = state_from T l in
    let t = line_after T l cs in
    let lines = subst⁻¹ (λ (m : Line). Serves T r (point_of T m) (memory_of m) cs (answers_of T l cs) (point_of T t) (memory_of t))
    (line_back T l) (calls_run T r l ok cs) in
    let ends = subst⁻¹ (λ (m : Line). Serves T r (point_in s) (memory_in s) cs (answers_of T l cs) (point_of T m) (memory_of m))
    (line_back T t) lines in
    subst⁻¹ (λ (z : State). Serves T r (point_in s) (memory_in s) cs (answers_to s cs) (point_in z) (memory_in z)) (same T l ok cs).after
    (subst⁻¹ (λ (xs : List Answer). Serves T r (point_in s) (memory_in s) cs xs (point_of T t) (memory_in (state_from T t)))
    (same T l ok cs).answers ends)

-- from any sound state, over any calls of arrival and pick, the listing gives the answers of the calls and stands where the state does ..
pub algorithm_runs : (s : State) → SoundState s → (r : Reading) (cs : List Call) →
    Serves s.table r (point_in s) (memory_in s) cs (answers_to s cs) (point_in (after_calls s cs)) (memory_in (after_calls s cs))
algorithm_runs s ok r cs = subst (ServesAs r cs) (state_back s.table s.line) (serves_as s.table (line_in s.line) ok r cs)

-- .. and gives no other
pub algorithm_runs_only : (s : State) → SoundState s → (r : Reading) (cs : List Call) (xs : List Answer) (q : Point) (t : Memory) →
    Serves s.table r (point_in s) (memory_in s) cs xs q t →
    (xs ≡ answers_to s cs) × (q ≡ point_in (after_calls s cs)) × (t ≡ memory_in (after_calls s cs))
algorithm_runs_only s ok r cs xs q t j = serves_one j (algorithm_runs s ok r cs)

-- ---- where it stands
-- lines 1 to 5 are 01's fresh state
pub algorithm_starts : (T : Table) → (point_in (fresh_state T) ≡ start_point) × (memory_in (fresh_state T) ≡ start_memory)
algorithm_starts T = (ap line6 (first T.n), ap memory_of (line_back T (fresh_line T.n)))
  where
    first : (n : ℕ) → after n (n - 1) ≡ 0
    first zero = refl
    first (suc n) = rw (le-ltb (suc n - 1 + 1) (suc n) (omega arith))

-- a point and a memory are those of one line at most: what the listing leaves is the whole line
pub point_tells : (T : Table) (l m : Line) → Sound T l → Sound T m → point_of T l ≡ point_of T m → memory_of l ≡ memory_of m → l ≡ m
point_tells T l m x y p e =
    let z = spots l.opened m.opened refl refl p in
    let w = same_sums T l m x y (ap (λ (k : Memory). k.counts) e) (ap (λ (k : Memory). k.rows) e) in
    λ i. record {
      deficits = (e i).deficits;
      counts = (e i).counts;
      sums = w i;
      rows = (e i).rows;
      place = z.0 i;
      opened = z.1 i;
    }
  where
    n : ℕ
    n = T.n

    back : after n l.place ≡ after n m.place → l.place ≡ m.place
    back h = ⊎_elim
        (λ a. ⊎_elim (λ b. steps (ltb (l.place + 1) n) (ltb (m.place + 1) n) refl refl h a b)
        (λ b. absurd (omega (arith, a, b.0))) y.placed)
        (λ a. ⊎_elim (λ b. absurd (omega (arith, b, a.0))) (λ b. a.2 ∙ sym b.2) y.placed)
        x.placed
      where
        steps : (a b : Bool) → ltb (l.place + 1) n ≡ a → ltb (m.place + 1) n ≡ b → cond a (l.place + 1) 0 ≡ cond b (m.place + 1) 0 →
            l.place < n → m.place < n → l.place ≡ m.place
        steps true true f g h _ _ = omega arith
        steps true false f g h _ _ = absurd (omega arith)
        steps false true f g h _ _ = absurd (omega arith)
        steps false false f g h u w = omega (arith, ltb-false (l.place + 1) n f, ltb-false (m.place + 1) n g)

    spots : (a b : Bool) → l.opened ≡ a → m.opened ≡ b →
        cond a (line12 l.place) (line6 (after n l.place)) ≡ cond b (line12 m.place) (line6 (after n m.place)) →
        (l.place ≡ m.place) × (l.opened ≡ m.opened)
    spots true true f g h = (cc, f ∙ sym g)
    spots true false f g h = absurd (let z : ◌≡◌ {A = ℕ} 0 1 = cc in omega arith)
    spots false true f g h = absurd (let z : ◌≡◌ {A = ℕ} 0 1 = cc in omega arith)
    spots false false f g h = (back cc, f ∙ sym g)
