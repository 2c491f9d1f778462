use Rattle.std.proofs.Common.{rules}
use Rattle.fmp_recording.proofs.LineByLine.{an_argument}
use Rattle.fmp_recording.proofs.reading.next_argument.Goals as goal

pub returns : goal.returns
returns c = λ n.
    an_argument c.args.rest.now c.first_word.result.0.now c.first_word.result.1.now _ n c.in-len1-up.len_at_least
    c.first_word.ensures.word c.first_word.ensures.rest (search rules)
