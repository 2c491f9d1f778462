use Rattle.std.proofs.Common.{◌+◌, ◌∷◌, ap, inl, inr, nat_eq, refl, sym, take, ◌∙◌}
use Rattle.fmp_expect.specs.Grammar.{expectations_from, in_front, line_meaning}
use Rattle.fmp_expect.specs.Words.{lines_of}
use Rattle.fmp_expect.proofs.Splitting.{line_at, line_last, rest_whole, split_at, split_none}
use Rattle.fmp_expect.proofs.words.first_line.Goals as goal

pub returns-in-Some-clause-lines : goal.returns-in-Some-clause-lines
returns-in-Some-clause-lines c = λ sys n.
    let text = c.args.text.now in
    let place = c.in-Some.place in
    line_at sys n text place (sym c.in-Some.ensures)
    ∙ ap (λ rest. in_front n (line_meaning sys (take place text)) (expectations_from sys (n + 1) (lines_of rest)))
    (sym (rest_whole text (place + 1)))

pub returns-in-None-clause-lines : goal.returns-in-None-clause-lines
returns-in-None-clause-lines c = λ sys n. line_last sys n c.args.text.now (sym c.in-None.ensures)

pub returns-in-Some-clause-cut : goal.returns-in-Some-clause-cut
returns-in-Some-clause-cut c =
    let text = c.args.text.now in
    let place = c.in-Some.place in
    inl
    (split_at (λ b. nat_eq b 10) text place (sym c.in-Some.ensures)
    ∙ ap (λ rest. take place text ∷ lines_of rest) (sym (rest_whole text (place + 1))))

pub returns-in-None-clause-cut : goal.returns-in-None-clause-cut
returns-in-None-clause-cut c = inr (refl, split_none (λ b. nat_eq b 10) c.args.text.now (sym c.in-None.ensures))
