use Rattle.std.proofs.Common.{◌≡◌, ◌++◌, drop, false}
use Rattle.fmp_looking.specs.NamedSystems.{names_after}
use Rattle.fmp_looking.proofs.named_system.names_in.Given as goal

abbrev pub invariant-loop-at : goal.invariant-loop-at
invariant-loop-at l =
    l.names.items ++ names_after l.after_head (drop l.at l.tokens) ≡ names_after false l.tokens
