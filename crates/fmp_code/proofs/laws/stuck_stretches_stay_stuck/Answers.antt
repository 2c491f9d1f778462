use Rattle.fmp_instructions.specs.Machine.{stack_of}
use Rattle.fmp_instructions.specs.Resuming.{exec-stuck}
use Rattle.fmp_code.proofs.laws.stuck_stretches_stay_stuck.Goals as goal

pub returns : goal.returns
returns c = λ code context m n stuck. exec-stuck code m n context.pc (stack_of context) context.locals stuck
