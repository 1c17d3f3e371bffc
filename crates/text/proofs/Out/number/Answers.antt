use Rattle.std.proofs.Common.{length, ap, arith}
use Rattle.text.proofs.Texts.{decimal_is}
use Rattle.text.proofs.Out.number.Goals as goal

pub bytes-requires : goal.bytes-requires
bytes-requires c =
    let d = c.decimal-k in
    omega (arith, ap length (decimal_is c.args.n d.result _ (omega arith) d.ensures.len d.ensures.digits))

pub returns : goal.returns
returns c =
    let d = c.decimal-k in
    record {
      same_buffer = c.bytes.ensures.same_buffer;
      put =
          rw (decimal_is c.args.n d.result _ (omega arith) d.ensures.len d.ensures.digits) at c.bytes.ensures.put;
    }
