use Rattle.std.proofs.Common.{◌≡◌, drop}
use Rattle.fmp_tasklang.specs.Views.{block_view}
use Rattle.fmp_scopes.specs.Naming.{uses_offence, block_uses}
use Rattle.fmp_scopes.specs.Scopes.{scope_view}
use Rattle.fmp_scopes.proofs.uses.+statement_offences.Given as goal

abbrev pub invariant-block_offence-loop-s : goal.invariant-block_offence-loop-s
invariant-block_offence-loop-s l =
    uses_offence (scope_view l.names) (block_uses (block_view (drop l.s-index l.statements))) ≡
    uses_offence (scope_view l.names) (block_uses (block_view l.statements))
