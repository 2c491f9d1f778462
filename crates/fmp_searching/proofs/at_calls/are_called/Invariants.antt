use Rattle.std.proofs.Common.{◌≡◌, drop}
use Rattle.fmp_instructions.specs.Instructions.{code_tables}
use Rattle.fmp_searching.specs.Questions.{are_called}
use Rattle.fmp_searching.proofs.at_calls.are_called.Given as goal

abbrev pub invariant-loop-at : goal.invariant-loop-at
invariant-loop-at l =
    are_called (code_tables l.code) l.lines (drop l.at-index l.codes)
    ≡ are_called (code_tables l.code) l.lines l.codes
