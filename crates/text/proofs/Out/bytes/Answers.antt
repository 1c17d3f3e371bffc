use Rattle.std.proofs.Common.{refl, arith}
use Rattle.text.proofs.Texts.{put_part}
use Rattle.text.proofs.Out.bytes.Goals as goal

pub returns : goal.returns
returns c =
    let out = c.args.self.now in
    record {
      same_buffer = refl;
      put =
          (put_part out.buf.now c.args.text.now _ out.at _ c.requires c.copy_from_slice.ensures.after (omega arith), refl);
    }
