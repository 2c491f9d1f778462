use Rattle.fmp_instructions.specs.Machine.{stack_of}
use Rattle.fmp_instructions.specs.Resuming.{exec-resumes}
use Rattle.fmp_code.proofs.laws.cut_stretches_go_on.Goals as goal

pub returns : goal.returns
returns c = λ code context cut m n over. exec-resumes code m n context.pc (stack_of context) context.locals cut over
