use Rattle.std.proofs.Common.{◌≡◌, ℕ, [], ◌∷◌, ◌++◌, length, refl, sym, ap, arith}
use Rattle.io.specs.Digits.{last_digits}
use Rattle.text.proofs.Texts.{puts_two, puts_as, room_first, room_then}
use Rattle.text.proofs.Rows.{time_parts}
use Rattle.text.proofs.Out.time.Goals as goal

-- the point and the digits
two : (t : ℕ) → 46 ∷ last_digits 10 8 t ≡ (46 ∷ []) ++ last_digits 10 8 t
two t = refl

pub returns : goal.returns
returns c =
    let t = c.args.time in
    let e : last_digits 10 8 t ≡ c.spell.new.part = sym c.spell.ensures in
    puts_as (time_parts t) (puts_two c.number.ensures (puts_two c.byte.ensures (puts_as e c.bytes.ensures)))

pub number-requires : goal.number-requires
number-requires c = room_first c.args.self.now _ _ _ (time_parts c.args.time) c.requires

pub bytes-requires : goal.bytes-requires
bytes-requires c =
    let t = c.args.time in
    let e : c.spell.new.part ≡ last_digits 10 8 t = c.spell.ensures in
    omega (arith, ap length e, room_then _ _ (two t) (room_then _ _ (time_parts t) c.requires c.number.ensures) c.byte.ensures)

pub byte-requires : goal.byte-requires
byte-requires c =
    let t = c.args.time in
    room_first c.number.new.self (46 ∷ last_digits 10 8 t) (46 ∷ []) (last_digits 10 8 t) (two t)
    (room_then _ _ (time_parts t) c.requires c.number.ensures)
