-- "Unused cells and unused flows are zero, so one meaning has one state."
use mathlib.Core.Path.{◌≡◌, sym, ap, ◌∙◌, subst}
use mathlib.Core.List.{List, []}
use mathlib.Core.Logic.{⊎_elim}
use Prim.Native.Nat.{ℕ, ◌≤◌, ◌<◌}
use native.Mathlib.Omega.{arith}
use lib.ListN.{length, get_or, take}
use lib.Seq.{ext_get_or, get_or-take, length-take-le}
use Rattle.drr.specs.declared.Table.{Table}
use Rattle.drr.specs.declared.State.{State}
use Rattle.drr.specs.Limits.{most_flows, most_waiting}
use Rattle.drr.specs.State.{Line, deficit_of, waiting_of, row_of, lengths_in, bytes_of, line_in, state_from}
use Rattle.drr.specs.Facts.{Ranged, Sound, SoundState, SameTable, SameMeaning}
use Rattle.drr.proofs.Bools.{below?}
use Rattle.drr.proofs.States.{state_back}
use Rattle.drr.proofs.Tables.{sound_ranged}

-- two lists of a number for each flow, which agree on the flows in use and are zero past them
module _ (n : ℕ) (xs ys : List ℕ) (long : length xs ≡ most_flows) (long' : length ys ≡ most_flows) where
  same_numbers : ((f : ℕ) → f < n → get_or xs f 0 ≡ get_or ys f 0) → ((f : ℕ) → n ≤ f → f < most_flows → get_or xs f 0 ≡ 0) →
      ((f : ℕ) → n ≤ f → f < most_flows → get_or ys f 0 ≡ 0) → xs ≡ ys
  same_numbers same none none' = ext_get_or 0 xs ys (long ∙ sym long') (λ f low. ⊎_elim
      (λ used. same f used)
      (λ past. none f past (omega arith) ∙ sym (none' f past (omega arith)))
      (below? f n))

-- what is unused decides nothing
pub one_table : (T U : Table) → Ranged T → Ranged U → SameTable T U → T ≡ U
one_table T U r u e =
    let qs = same_numbers T.n T.quanta U.quanta r.quanta_length u.quanta_length e.quanta
    (λ f p _. (r.unused_zero f p).0) (λ f p _. (u.unused_zero f (omega (arith, e.flows))).0) in
    let ms = same_numbers T.n T.maxima U.maxima r.maxima_length u.maxima_length e.maxima
    (λ f p _. (r.unused_zero f p).1) (λ f p _. (u.unused_zero f (omega (arith, e.flows))).1) in
    λ i. record { n = e.flows i; overhead = e.overheads i; quanta = qs i; maxima = ms i }

-- two sound lines over one table
module _ (T : Table) (l m : Line) (ok : Sound T l) (ok' : Sound T m)
    (deficits : (f : ℕ) → f < T.n → deficit_of l f ≡ deficit_of m f) (waiting : (f : ℕ) → f < T.n → lengths_in l f ≡ lengths_in m f) where
  -- as many wait as their lengths say
  long_in : (k : Line) → Sound T k → (f : ℕ) → f < T.n → length (lengths_in k f) ≡ waiting_of k f
  long_in k good f used =
      let low : f < most_flows = omega (arith, good.flows_few) in
      length-take-le (waiting_of k f) (row_of k f) (omega (arith, good.shape.row_length f low, ((good.flows f low).used used).count_most))

  counts_same : (f : ℕ) → f < T.n → waiting_of l f ≡ waiting_of m f
  counts_same f used = sym (long_in l ok f used) ∙ ap length (waiting f used) ∙ long_in m ok' f used

  all_counts : l.counts ≡ m.counts
  all_counts = same_numbers T.n l.counts m.counts ok.shape.counts_length ok'.shape.counts_length counts_same
      (λ f past low. ((ok.flows f low).unused past).no_count) (λ f past low. ((ok'.flows f low).unused past).no_count)

  all_deficits : l.deficits ≡ m.deficits
  all_deficits = same_numbers T.n l.deficits m.deficits ok.shape.deficits_length ok'.shape.deficits_length deficits
      (λ f past low. ((ok.flows f low).unused past).no_deficit) (λ f past low. ((ok'.flows f low).unused past).no_deficit)

  -- cell by cell: a waiting length, or zero
  same_row : (f : ℕ) → f < most_flows → row_of l f ≡ row_of m f
  same_row f low = ext_get_or 0 (row_of l f) (row_of m f) (ok.shape.row_length f low ∙ sym (ok'.shape.row_length f low)) (λ k inside.
      let small : k < most_waiting = omega (arith, ok.shape.row_length f low) in
      let same = ap (λ (cs : List ℕ). get_or cs f 0) all_counts in
      ⊎_elim
      (λ waits. ⊎_elim
      (λ used. sym (get_or-take (waiting_of l f) (row_of l f) k 0 waits) ∙ ap (λ (xs : List ℕ). get_or xs k 0) (waiting f used)
      ∙ get_or-take (waiting_of m f) (row_of m f) k 0 (omega (arith, same)))
      (λ past. absurd (omega (arith, ((ok.flows f low).unused past).no_count)))
      (below? f T.n))
      (λ free. (ok.flows f low).rest k small free ∙ sym ((ok'.flows f low).rest k small (omega (arith, same))))
      (below? k (waiting_of l f)))

  all_rows : l.rows ≡ m.rows
  all_rows = ext_get_or [] l.rows m.rows (ok.shape.rows_length ∙ sym ok'.shape.rows_length) (λ f low.
      same_row f (omega (arith, ok.shape.rows_length)))

-- the sums of sound lines are told by what waits
pub same_sums : (T : Table) (l m : Line) → Sound T l → Sound T m → l.counts ≡ m.counts → l.rows ≡ m.rows → l.sums ≡ m.sums
same_sums T l m ok ok' counts rows =
    ext_get_or 0 l.sums m.sums (ok.shape.sums_length ∙ sym ok'.shape.sums_length) (λ f inside.
    let low : f < most_flows = omega (arith, ok.shape.sums_length) in
    (ok.flows f low).true_sum ∙ (λ i. bytes_of (take (get_or (counts i) f 0) (get_or (rows i) f []))) ∙ sym (ok'.flows f low).true_sum)

pub one_state : (s t : State) → SoundState s → SoundState t → SameMeaning s t → s ≡ t
one_state s t ok ok' e = sym (state_back s.table s.line) ∙ (λ i. state_from (table i) (line i)) ∙ state_back t.table t.line
  where
    table : s.table ≡ t.table
    table = one_table s.table t.table (sound_ranged ok) (sound_ranged ok') e.tables

    l : Line
    l = line_in s.line

    m : Line
    m = line_in t.line

    here : Sound s.table m
    here = subst (λ (T : Table). Sound T m) (sym table) ok'

    counts : l.counts ≡ m.counts
    counts = all_counts s.table l m ok here e.deficits e.waiting

    deficits : l.deficits ≡ m.deficits
    deficits = all_deficits s.table l m ok here e.deficits e.waiting

    rows : l.rows ≡ m.rows
    rows = all_rows s.table l m ok here e.deficits e.waiting

    sums : l.sums ≡ m.sums
    sums = same_sums s.table l m ok here counts rows

    line : l ≡ m
    line = λ i. record {
      deficits = deficits i;
      counts = counts i;
      sums = sums i;
      rows = rows i;
      place = e.places i;
      opened = e.visits i;
    }
