use Rattle.fmp_instructions.specs.Machine.{stack_of}
use Rattle.fmp_code.proofs.CallsMade.{exec-passes}
use Rattle.fmp_code.proofs.laws.stretches_make_only_calls_of_the_code.Goals as goal

pub returns : goal.returns
returns c = λ test code all n context. exec-passes test code all n context.pc (stack_of context) context.locals
