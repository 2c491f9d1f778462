use Rattle.std.proofs.Common.{◌≡◌, ◌<◌, ◌≤◌, ℕ, get_or, length}
use Rattle.fmp_looking.specs.Branches.{branches_before}
use Rattle.fmp_looking.proofs.branch_numbers.body_numbers.Given as goal

abbrev pub invariant-loop-instruction : goal.invariant-loop-instruction
invariant-loop-instruction l =
    record {
      are : (pc : ℕ) → pc < l.instruction-index → get_or l.numbers.items pc 0 ≡ branches_before l.instructions pc;
      count : length l.numbers.items ≡ l.instruction-index;
      branches : l.branches ≡ branches_before l.instructions l.instruction-index;
      few : l.branches ≤ l.instruction-index;
    }
