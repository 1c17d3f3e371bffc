use Rattle.std.proofs.Common.{ap, ◌∙◌}
use Rattle.text.proofs.Lines.{to_end}
use Rattle.textform.specs.Grammar.{words_of}
use Rattle.textform.proofs.Scans.{word_next, word_behind}
use Rattle.textform.proofs.make.next_word.Goals as goal

pub returns-clause-word : goal.returns-clause-word
returns-clause-word c =
    c.split_at.ensures.front
    ∙ word_next c.args.line.now _ c.blanks.result _ (to_end c.blanks.result c.args.line.now) c.blanks.ensures.value c.word_len.ensures.value

pub returns-clause-behind : goal.returns-clause-behind
returns-clause-behind c =
    ap words_of c.split_at.ensures.back
    ∙ word_behind c.args.line.now _ c.blanks.result _ (to_end c.blanks.result c.args.line.now) c.blanks.ensures.value c.word_len.ensures.value
