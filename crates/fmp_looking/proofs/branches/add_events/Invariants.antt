use Rattle.std.proofs.Common.{◌+◌, ◌≤◌, ◌^◌, drop, length}
use Rattle.fmp_instructions.specs.Instructions.{code_tables}
use Rattle.fmp_looking.specs.Branches.{branch_steps}
use Rattle.fmp_looking.proofs.BranchLemmas.{IsLeft}
use Rattle.fmp_looking.proofs.branches.add_events.Given as goal

abbrev pub invariant-loop-e : goal.invariant-loop-e
invariant-loop-e g l =
    record {
      steps : IsLeft 1 l.initial.ways l.ways
          (branch_steps g.B.Body.meaning (code_tables l.code.code.now) l.kernel (drop l.e-index l.events))
          (branch_steps g.B.Body.meaning (code_tables l.code.code.now) l.initial.kernel l.events);
      few : l.kernel.taken + length l.events ≤ 2 ^ 31 + l.e-index;
    }
