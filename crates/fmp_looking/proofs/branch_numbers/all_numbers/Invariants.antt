use Rattle.std.proofs.Common.{◌≡◌, ◌<◌, ℕ, length, map}
use Rattle.fmp_instructions.specs.Instructions.{body_tables}
use Rattle.fmp_looking.specs.BranchNumbers.{AreNumbers, numbers_in}
use Rattle.fmp_looking.specs.Branches.{instructions_of}
use Rattle.fmp_looking.proofs.branch_numbers.all_numbers.Given as goal

abbrev pub invariant-loop-body : goal.invariant-loop-body
invariant-loop-body l =
    record {
      are : (b : ℕ) → b < l.body-index
          → AreNumbers (instructions_of (map body_tables l.code) b) (numbers_in l.bodies.items b);
      count : length l.bodies.items ≡ l.body-index;
    }
