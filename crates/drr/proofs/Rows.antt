-- First in, first out: what an arrival adds to a flow's row, and what a pick takes from it.
use mathlib.Core.Path.{◌≡◌, refl, sym}
use mathlib.Core.List.{[], ◌++◌, append-nil}
use mathlib.Core.Logic.{⊎_elim}
use Prim.Native.Nat.{ℕ, ◌+◌, ◌<◌}
use native.Mathlib.Omega.{arith}
use borrow.Author.Tests.{eq-eqb, ne_eqb, leb-false}
use lib.Dec.{ltb, leb, eqb}
use lib.ListN.{set}
use lib.Seq.{get_or-set_same, get_or-set_other}
use Rattle.drr.specs.Limits.{most_waiting}
use Rattle.drr.specs.declared.Table.{Table}
use Rattle.drr.specs.State.{Line, maximum_of, waiting_of, row_of, lengths_in}
use Rattle.drr.specs.Facts.{Sound}
use Rattle.drr.specs.Answers.{Outcome}
use Rattle.drr.specs.Arrival.{put, arrival_of}
use Rattle.drr.specs.Computed.{pick_of}
use Rattle.drr.specs.Floor.{given_in, added_to}
use Rattle.drr.proofs.Bools.{by_test, same?}
use Rattle.drr.proofs.Lengths.{take_set}
use Rattle.drr.proofs.Steps.{low}
use Rattle.drr.proofs.One.{pick_is}
use Rattle.drr.proofs.Round.{cyclic}
use Rattle.drr.proofs.Service.{picks_serve}
use Rattle.drr.proofs.Demand3.{placed}

module _ (T : Table) (i : ℕ) (i<n : i < T.n) where
  pub pick_takes : (l : Line) → Sound T l → lengths_in l i ≡ given_in (pick_of T l).answer i ++ lengths_in (pick_of T l).line i
  pick_takes l ok = (picks_serve T (cyclic T) i i<n (pick_is T l ok) ok (placed ok i<n)).took

  module _ (l : Line) (ok : Sound T l) (f len : ℕ) where
    abbrev P : Outcome → Type 0
    P o = lengths_in o.line i ≡ lengths_in l i ++ added_to o.answer.refusal f len i

    put_adds : f < T.n → waiting_of l f < most_waiting → lengths_in (put l f len) i ≡ lengths_in l i ++ added_to 0 f len i
    put_adds in_table room = ⊎_elim
        (λ e. rw e (rw (
          eq-eqb f f refl,
          get_or-set_same l.counts f (waiting_of l f + 1) 0 (omega (arith, ok.shape.counts_length, inside)),
          get_or-set_same l.rows f (set (row_of l f) (waiting_of l f) len) [] (omega (arith, ok.shape.rows_length, inside)),
        )
        (take_set (row_of l f) (waiting_of l f) len (omega (arith, ok.shape.row_length f inside)))))
        (λ ne. rw (
          ne_eqb f i (λ d. ne (sym d)),
          get_or-set_other l.counts f i (waiting_of l f + 1) 0 ne,
          get_or-set_other l.rows f i (set (row_of l f) (waiting_of l f) len) [] ne,
        ) (sym (append-nil (lengths_in l i))))
        (same? i f)
      where
        inside : f < 16
        inside = low T l ok f in_table

    pub arrival_adds : P (arrival_of T l f len)
    unfolding arrival_of
    arrival_adds =
        by_test P (leb T.n f) (λ _. none) (λ a. by_test P (eqb len 0) (λ _. none) (λ _.
        by_test P (ltb (maximum_of T f) len) (λ _. none)
        (λ _. by_test P (leb most_waiting (waiting_of l f)) (λ _. none) (λ d.
        put_adds (leb-false T.n f a) (leb-false most_waiting (waiting_of l f) d)))))
      where
        none : lengths_in l i ≡ lengths_in l i ++ []
        none = sym (append-nil (lengths_in l i))
