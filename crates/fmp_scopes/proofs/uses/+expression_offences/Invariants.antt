use Rattle.std.proofs.Common.{◌≡◌, drop, map}
use Rattle.fmp_tasklang.specs.Views.{link_view}
use Rattle.fmp_scopes.specs.Chains.{links_uses}
use Rattle.fmp_scopes.specs.Naming.{uses_offence}
use Rattle.fmp_scopes.specs.Scopes.{scope_view}
use Rattle.fmp_scopes.proofs.uses.+expression_offences.Given as goal

abbrev pub invariant-links_offence-loop-link : goal.invariant-links_offence-loop-link
invariant-links_offence-loop-link l =
    uses_offence (scope_view l.names) (links_uses (map link_view (drop l.link-index l.links))) ≡
    uses_offence (scope_view l.names) (links_uses (map link_view l.links))
