use Rattle.std.proofs.Common.{◌≡◌, drop, map}
use Rattle.fmp_tasklang.specs.Views.{expression_view}
use Rattle.fmp_scopes.specs.Naming.{uses_offence, arguments_uses}
use Rattle.fmp_scopes.specs.Scopes.{scope_view}
use Rattle.fmp_scopes.proofs.uses.arguments_offence.Given as goal

abbrev pub invariant-loop-e : goal.invariant-loop-e
invariant-loop-e l =
    uses_offence (scope_view l.names) (arguments_uses (map expression_view (drop l.e-index l.arguments))) ≡
    uses_offence (scope_view l.names) (arguments_uses (map expression_view l.arguments))
