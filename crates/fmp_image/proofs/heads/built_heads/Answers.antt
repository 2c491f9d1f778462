use Rattle.std.proofs.Common.{◌≤◌, length, map, ap, ◌∙◌, arith}
use Rattle.std.proofs.lemmas.List.{take_all}
use Rattle.fmp_image.specs.Building.{head_of}
use Rattle.fmp_image.proofs.BuiltHeads.{heads_made}
use Rattle.fmp_image.proofs.heads.built_heads.Goals as goal

pub returns : goal.returns
returns c = λ bodies are.
    let headings = c.args.headings.now in
    let i = c.loop-heading.heading-index in
    let last : length headings ≤ i = omega (arith, c.loop-heading-test.false) in
    c.loop-heading.invariant ∙ ap (map head_of) (take_all i headings last) ∙ heads_made headings bodies c.requires are
