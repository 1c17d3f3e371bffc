use Rattle.std.proofs.Common.{arith}
use Rattle.text.proofs.Texts.{put_part}
use Rattle.textform.proofs.progress.put.Goals as goal

pub returns : goal.returns
returns c = put_part c.args.buf.now c.args.bytes.now _ c.args.at _ c.requires c.copy_from_slice.ensures.after (omega arith)
