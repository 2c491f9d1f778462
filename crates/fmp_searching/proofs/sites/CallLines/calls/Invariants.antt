use Rattle.std.proofs.Common.{◌≡◌}
use Rattle.fmp_instructions.specs.Instructions.{code_tables}
use Rattle.fmp_searching.proofs.sites.CallLines.calls.Given as goal
use Rattle.fmp_searching.specs.Sites.{calls_below}

abbrev pub invariant-loop-body : goal.invariant-loop-body
invariant-loop-body l = l.sites.items ≡ calls_below l.body l.line (code_tables l.code) l.self
