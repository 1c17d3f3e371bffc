use Rattle.std.proofs.lemmas.Bool.Decides.{Decides-eqb}
use Rattle.std.proofs.lemmas.Slice.Eq.{slice_eq-Decides}
use Rattle.text.proofs.Words.{told}
use Rattle.text.proofs.same.Goals as goal

pub returns : goal.returns
returns c =
    let alike = slice_eq-Decides Decides-eqb _ _ _ c.eq.ensures in
    told _ c.args.a.now c.args.b.now alike
