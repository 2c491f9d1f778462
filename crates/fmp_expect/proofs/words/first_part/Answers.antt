use Rattle.std.proofs.Common.{◌+◌, ◌∷◌, ap, cond, sym, take, ◌∙◌}
use Rattle.fmp_expect.specs.Words.{is_word, words_of}
use Rattle.fmp_expect.proofs.Splitting.{part_at, part_last, rest_whole}
use Rattle.fmp_expect.proofs.words.first_part.Goals as goal

pub returns-in-Some-clause-words : goal.returns-in-Some-clause-words
returns-in-Some-clause-words c =
    let line = c.args.line.now in
    let place = c.in-Some.place in
    part_at line place (sym c.in-Some.ensures)
    ∙ ap (λ rest. cond (is_word (take place line)) (take place line ∷ words_of rest) (words_of rest))
    (sym (rest_whole line (place + 1)))

pub returns-in-None-clause-words : goal.returns-in-None-clause-words
returns-in-None-clause-words c = part_last c.args.line.now (sym c.in-None.ensures)
