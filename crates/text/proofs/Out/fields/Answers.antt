use Rattle.text.proofs.Texts.{puts_two, puts_as, room_first, room_then}
use Rattle.text.proofs.Lines.{fields_parts}
use Rattle.text.proofs.Out.fields.Goals as goal

pub returns : goal.returns
returns c = puts_as (fields_parts c.args.fields.now) (puts_two c.spaced.ensures c.byte.ensures)

pub spaced-requires : goal.spaced-requires
spaced-requires c = room_first c.args.self.now _ _ _ (fields_parts c.args.fields.now) c.requires

pub byte-requires : goal.byte-requires
byte-requires c = room_then _ _ (fields_parts c.args.fields.now) c.requires c.spaced.ensures
