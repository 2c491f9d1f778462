use Rattle.std.proofs.Common.{◌≤◌, length, map, ap, ◌∙◌, arith}
use Rattle.std.proofs.lemmas.List.{take_all}
use Rattle.fmp_tasklang.specs.declared.trees.Body.{Body}
use Rattle.fmp_tasklang.specs.Views.{body_view, program_view}
use Rattle.fmp_scopes.specs.Headings.{heading_of}
use Rattle.fmp_scopes.proofs.Headed.{all-headed}
use Rattle.fmp_scopes.proofs.entries.check_entries.Goals as goal

pub returns : goal.returns
returns c =
    let bodies = c.args.program.now.bodies.items in
    let i = c.loop-body.body-index in
    let last : length bodies ≤ i = omega (arith, c.loop-body-test.false, c.deref-body-items.ensures.len) in
    let all = c.deref.ensures.value ∙ c.loop-body.invariant ∙ ap (map (λ (b : Body). heading_of (body_view b)))
    (take_all i bodies last) in
    c.check_headings.ensures (program_view c.args.program.now) (all ∙ all-headed bodies)
