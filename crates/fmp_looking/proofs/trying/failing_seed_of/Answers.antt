use Rattle.std.proofs.Common.{IfOk, List, subst}
use Rattle.fmp_instructions.specs.declared.instructions.MachineContext.{MachineContext}
use Rattle.fmp_instructions.specs.Instructions.{BodyTables}
use Rattle.fmp_instructions.specs.Machine.{code_meaning}
use Rattle.fmp_trials.specs.Found.{IsFirstFailing}
use Rattle.fmp_trials.specs.Trials.{Subject}
use Rattle.fmp_looking.specs.CallSentences.{JudgeTables, breaks_by}
use Rattle.fmp_looking.proofs.trying.failing_seed_of.Goals as goal

pub returns : goal.returns
returns c =
    subst
    (λ (b : Subject (List BodyTables) MachineContext JudgeTables). IfOk c.first_failing-found.result
    (IsFirstFailing code_meaning breaks_by b c.args.trials.now.plan c.args.seeds))
    c.in_ok-bench.ensures c.first_failing-found.ensures.first
