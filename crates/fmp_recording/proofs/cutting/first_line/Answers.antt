use Rattle.std.proofs.Common.{◌+◌, ◌∷◌, take, ap, sym, ◌∙◌}
use Rattle.fmp_trace.specs.Steps.{lines_of}
use Rattle.fmp_trace.proofs.LinesOf.{lines_of-first, lines_of-only, rest_whole}
use Rattle.fmp_recording.proofs.cutting.first_line.Goals as goal

pub returns-in-Some-clause-lines : goal.returns-in-Some-clause-lines
returns-in-Some-clause-lines c =
    let text = c.args.text.now in
    let place = c.in-Some.position in
    lines_of-first text place (sym c.in-Some.ensures)
    ∙ ap (λ rest. take place text ∷ lines_of rest) (sym (rest_whole text (place + 1)))

pub returns-in-None-clause-lines : goal.returns-in-None-clause-lines
returns-in-None-clause-lines c = lines_of-only c.args.text.now c.requires (sym c.in-None.ensures)
