use Rattle.std.proofs.Common.{sym, ap, ◌∙◌, rules, length, ◌≡◌}
use Rattle.textform.specs.Grammar.{item_in}
use Rattle.textform.proofs.Scans.{no_word}
use Rattle.textform.proofs.make.item_in.Goals as goal

pub returns-then-is_empty : goal.returns-then-is_empty
returns-then-is_empty c =
    let e : length c.next_word.result.0.now ≡ 0 = search rules in
    sym (ap item_in (no_word c.args.line.now (ap length (sym c.next_word.ensures.word) ∙ e)))
