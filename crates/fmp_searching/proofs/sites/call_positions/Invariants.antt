use Rattle.std.proofs.Common.{◌≡◌, ◌++◌, drop}
use Rattle.fmp_searching.specs.Sites.{call_positions}
use Rattle.fmp_searching.proofs.sites.call_positions.Given as goal

abbrev pub invariant-loop-pc : goal.invariant-loop-pc
invariant-loop-pc l =
    l.positions.items ++ call_positions l.pc (drop l.pc l.instructions) ≡ call_positions 0 l.instructions
