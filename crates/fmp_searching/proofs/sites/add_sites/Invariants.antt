use Rattle.std.proofs.Common.{◌≡◌, ◌++◌, drop}
use Rattle.fmp_searching.specs.Sites.{sites_at}
use Rattle.fmp_searching.proofs.sites.add_sites.Given as goal

abbrev pub invariant-loop-at : goal.invariant-loop-at
invariant-loop-at l =
    l.sites.items ++ sites_at l.body l.line (drop l.at l.positions) (drop l.at l.calls)
    ≡ l.initial.sites.items ++ sites_at l.body l.line l.positions l.calls
