use Rattle.std.proofs.Common.{◌+◌, ◌<◌, ℕ, List, [], ◌∷◌, length, get_or, drop, refl, ◌∙◌}
use Rattle.text.specs.Text.{decimal, time_text, timed_text, Put}
use Rattle.text.proofs.Texts.{Left, left_room, left_fits, left_then, left_end}
use Rattle.text.proofs.Rows.{timed_first, timed_end}
use Rattle.text.proofs.Out.timed.Goals as goal

-- in a turn: a number is put, then the space and the others are left
spaced : (l b₀ b b' : List ℕ) (at₀ t at r i : ℕ) → i < length l →
    Left b₀ at₀ (timed_text l t) b at (timed_text (drop i l) t) → Put b at (decimal (get_or l i 0)) b' r →
    Left b₀ at₀ (timed_text l t) b' r (32 ∷ timed_text (drop (i + 1) l) t)
spaced l b₀ b b' at₀ t at r i h left p = left_then left (decimal (get_or l i 0)) _ (timed_first l t i h) b' r p

pub loop-n-preserved : goal.loop-n-preserved
loop-n-preserved c =
    let a = c.args in
    let o = c.loop-n in
    let l = a.list.now in (
      c.byte.ensures.same_buffer ∙ c.number.ensures.same_buffer ∙ o.invariant.0,
      left_then (spaced l _ _ _ _ a.time _ _ o.n-index c.loop-n-test.true o.invariant.1 c.number.ensures.put) (32 ∷ [])
          (timed_text (drop (o.n-index + 1) l) a.time) refl _ _ c.byte.ensures.put,
    )

pub byte-requires : goal.byte-requires
byte-requires c =
    let a = c.args in
    let o = c.loop-n in
    let l = a.list.now in
    left_room (spaced l _ _ _ _ a.time _ _ o.n-index c.loop-n-test.true o.invariant.1 c.number.ensures.put) (32 ∷ [])
    (timed_text (drop (o.n-index + 1) l) a.time) refl

pub byte-requires-2 : goal.byte-requires-2
byte-requires-2 c =
    let o = c.loop-n in
    left_fits
    (left_then o.invariant.1 (time_text c.args.time) (10 ∷ []) (timed_end c.args.list.now c.args.time o.n-index c.loop-n-test.false) _ _
    c.time.ensures.put)

pub returns : goal.returns
returns c =
    let o = c.loop-n in
    record {
      same_buffer = c.byte-2.ensures.same_buffer ∙ c.time.ensures.same_buffer ∙ o.invariant.0;
      put =
          left_end
          (left_then o.invariant.1 (time_text c.args.time) (10 ∷ []) (timed_end c.args.list.now c.args.time o.n-index c.loop-n-test.false) _ _
          c.time.ensures.put)
          (10 ∷ []) refl _ _ c.byte-2.ensures.put;
    }
