use Rattle.std.proofs.Common.{◌≡◌, ◌++◌, drop}
use Rattle.fmp_instructions.specs.Instructions.{code_tables}
use Rattle.fmp_searching.specs.Questions.{nevers_at_in}
use Rattle.fmp_searching.proofs.at_calls.nevers_at_in.Given as goal

abbrev pub invariant-loop-at : goal.invariant-loop-at
invariant-loop-at l =
    l.nevers.items ++ nevers_at_in (code_tables l.code) l.lines (drop l.at-index l.codes)
    ≡ nevers_at_in (code_tables l.code) l.lines l.codes
