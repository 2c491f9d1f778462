use Rattle.std.proofs.Common.{refl}
use Rattle.fmp_instructions.specs.Machine.{code_stretch, stack_of}
use Rattle.fmp_instructions.specs.Longer.{exec-longer}
use Rattle.fmp_code.proofs.laws.stretches_stay_at_greater_bounds.Goals as goal

pub returns : goal.returns
returns c =
    λ code context low high below ended.
    exec-longer code low high below context.pc (stack_of context) context.locals (code_stretch code low context) ended
    refl
