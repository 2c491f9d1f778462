use Rattle.std.proofs.Common.{rules, ◌≡◌, ◌+◌, None, map, ap, sym, ◌∙◌, drop}
use Rattle.fmp_tasklang.specs.Views.{expression_view}
use Rattle.fmp_scopes.specs.Naming.{uses_offence, expression_uses, arguments_uses}
use Rattle.fmp_scopes.specs.Scopes.{scope_view}
use Rattle.fmp_scopes.proofs.KnownNames.{uses-here, uses-there}
use Rattle.fmp_scopes.proofs.Loops.{map-step}
use Rattle.fmp_scopes.proofs.uses.arguments_offence.Goals as goal

pub returns-in-Some : goal.returns-in-Some
returns-in-Some c =
    let scope = scope_view c.args.names.now in
    let e = c.e-item.result in
    let i = c.loop-e.e-index in
    let step = map-step expression_view c.args.arguments.now i e c.loop-e-test.true c.e-item.is in
    let rest = arguments_uses (map expression_view (drop (i + 1) c.args.arguments.now)) in
    uses-here scope (expression_uses (expression_view e)) rest c.in-Some.offence c.in-Some.ensures
    ∙ sym (ap (λ es. uses_offence scope (arguments_uses es)) step)
    ∙ c.loop-e.invariant

pub loop-e-preserved : goal.loop-e-preserved
loop-e-preserved c =
    let scope = scope_view c.args.names.now in
    let e = c.e-item.result in
    let i = c.loop-e.e-index in
    let step = map-step expression_view c.args.arguments.now i e c.loop-e-test.true c.e-item.is in
    let rest = arguments_uses (map expression_view (drop (i + 1) c.args.arguments.now)) in
    let none : None ≡ uses_offence scope (expression_uses (expression_view e)) = search rules in
    uses-there scope (expression_uses (expression_view e)) rest none
    ∙ sym (ap (λ es. uses_offence scope (arguments_uses es)) step)
    ∙ c.loop-e.invariant
