use Rattle.std.proofs.Common.{◌∙◌, ap}
use Rattle.fmp_expect.specs.Grammar.{line_meaning}
use Rattle.fmp_searching.proofs.Worded.{words_are}
use Rattle.fmp_searching.proofs.laws.printed_sentences_are_read_back.Goals as goal

pub returns : goal.returns
returns c = λ sys e worded written words.
    ap (line_meaning sys) (words_are sys e worded) ∙ c.sentences_are_read_as_written.ensures.line sys e written words
