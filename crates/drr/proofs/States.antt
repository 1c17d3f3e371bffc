-- A State and what stands in it as lists; a call on a state.
use mathlib.Core.Path.{◌≡◌, refl, sym, ap, ◌∙◌}
use mathlib.Core.Bool.{Bool, true, false, not}
use mathlib.Core.List.{List, [], ◌∷◌}
use Prim.Native.Nat.{ℕ}
use Rattle.drr.specs.declared.Row.{Row}
use Rattle.drr.specs.declared.Table.{Table}
use Rattle.drr.specs.declared.Line.{Line as StoredLine}
use Rattle.drr.specs.declared.State.{State}
use Rattle.drr.specs.State.{Line, cells_in, rows_from, line_in, no_flows, state_from}
use Rattle.drr.specs.Sound.{sound_state}
use Rattle.drr.specs.Answers.{Answer, Outcome, outcome, reply, guarded}
use Rattle.drr.proofs.Bools.{refuted, passed}

pub cells_back : (cells : List (List ℕ)) → cells_in (rows_from cells) ≡ cells
cells_back [] = refl
cells_back (x ∷ xs) = ap (λ (r : List (List ℕ)). x ∷ r) (cells_back xs)

pub rows_back : (rows : List Row) → rows_from (cells_in rows) ≡ rows
rows_back [] = refl
rows_back (x ∷ xs) = ap (λ (r : List Row). x ∷ r) (rows_back xs)

-- the state made of the line in a stored line is the state with that line
pub state_back : (T : Table) (l : StoredLine) → state_from T (line_in l) ≡ record { table = T; line = l }
state_back T l = rw (rows_back l.rows)

-- two stored lines that say the same are one
pub line_one : (a b : StoredLine) → line_in a ≡ line_in b → a ≡ b
line_one a b e = ap (λ (s : State). s.line) (sym (state_back no_flows a) ∙ ap (state_from no_flows) e ∙ state_back no_flows b)

-- and back: the line that stands in the state made of it
pub line_back : (T : Table) (l : Line) → line_in (state_from T l).line ≡ l
line_back T l = rw (cells_back l.rows)

-- r is the test's answer
module _ (s : State) (unsound : Answer) (o : Outcome) (r : Bool) (told : r ≡ sound_state s) where
  pub refuses : not r ≡ true → reply unsound s ≡ guarded s unsound o
  unfolding guarded
  refuses bad = rw (refuted told bad)

  pub answers : not r ≡ false → (a : Answer) (l : StoredLine) → outcome a (line_in l) ≡ o →
      reply a (record { table = s.table; line = l }) ≡ guarded s unsound o
  unfolding guarded
  answers fine a l e =
      rw (passed told fine) (ap (λ (t : State). reply a t) (sym (state_back s.table l))
      ∙ ap (λ (z : Outcome). reply z.answer (state_from s.table z.line)) e)

-- a call on a sound state, and on another
pub guarded_sound : (s : State) (unsound : Answer) (o : Outcome) → sound_state s ≡ true →
    guarded s unsound o ≡ reply o.answer (state_from s.table o.line)
unfolding guarded
guarded_sound s unsound o e = rw e

pub guarded_not : (s : State) (unsound : Answer) (o : Outcome) → sound_state s ≡ false → guarded s unsound o ≡ reply unsound s
unfolding guarded
guarded_not s unsound o e = rw e
