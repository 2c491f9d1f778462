use Rattle.std.proofs.Common.{◌≡◌, ◌++◌, drop}
use Rattle.fmp_server.specs.Roles.{named_positions}
use Rattle.fmp_server.proofs.roles.all_positions.Given as goal

abbrev pub invariant-loop-at : goal.invariant-loop-at
invariant-loop-at l =
    l.positions.items ++ named_positions l.walk l.role (drop l.at l.tokens)
    ≡ named_positions l.fn.start l.role l.tokens
