use Rattle.std.proofs.Common.{ap₂, ◌∙◌}
use Rattle.fmp_tasklang.specs.Views.{expression_view}
use Rattle.fmp_scopes.specs.Naming.{first_offence, expression_uses}
use Rattle.fmp_scopes.specs.Scopes.{scope_view}
use Rattle.fmp_scopes.proofs.KnownNames.{two-parts}
use Rattle.fmp_scopes.proofs.uses.element_offence.Goals as goal

pub returns : goal.returns
returns c =
    let scope = scope_view c.args.names.now in
    let index = expression_uses (expression_view c.args.index.now) in
    let value = expression_uses (expression_view c.args.value.now) in
    let rest = two-parts scope index value c.expression_offence-first.result c.expression_offence-second.result
    c.earlier-rest.result
    c.expression_offence-first.ensures c.expression_offence-second.ensures c.earlier-rest.ensures in
    c.earlier.ensures ∙ ap₂ first_offence c.write_element_offence.ensures rest
