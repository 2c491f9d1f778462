use Rattle.std.proofs.Common.{◌≡◌, ℕ, List, subst}
use Rattle.std.proofs.lemmas.Result.{IfOk-weaker, err_from_is_err_and}
use Rattle.fmp_base.specs.Meanings.{Meaning}
use Rattle.fmp_base.specs.Steps.{Reaction}
use Rattle.fmp_base.specs.Systems.{SystemTables}
use Rattle.fmp_kernel.specs.KernelViews.{KernelView}
use Rattle.fmp_looking.specs.declared.commands.RunOutput.{RunOutput}
use Rattle.fmp_looking.specs.Outputs.{IsOutput}
use Rattle.fmp_looking.proofs.Fresh.{room}
use Rattle.fmp_looking.proofs.commands.output_of.Goals as goal

-- what is made of a run, by other names of the system and of the kernel
output_so : {B C X : Type 0} (output : RunOutput) (meaning : B → Meaning C)
    (reaction : KernelView B C → X → Reaction C) (sys sys' : SystemTables) (k k' : KernelView B C) (xs : List X)
    (out : List ℕ)
    → sys ≡ sys' → k ≡ k' → IsOutput output sys meaning reaction k xs out
    → IsOutput output sys' meaning reaction k' xs out
output_so {B} {C} {X} output meaning reaction sys sys' k k' xs out same is h =
    subst (λ (x : KernelView B C). IsOutput output sys' meaning reaction x xs out) is
    (subst (λ (t : SystemTables). IsOutput output t meaning reaction k xs out) same h)

pub output_on-made-requires : goal.output_on-made-requires
output_on-made-requires g c = record { few = room _ _ c.in_ok-kernel.ensures.taken c.requires }

pub returns-in_err-kernel : goal.returns-in_err-kernel
returns-in_err-kernel g c = rw ((err_from_is_err_and c.from_residual.result c.from_residual.ensures.1).1) tt

pub returns : goal.returns
returns g c =
    IfOk-weaker c.output_on-made.result _ _
    (λ out h. output_so _ _ _ _ _ _ _ _ _ c.system.ensures c.in_ok-kernel.ensures.start h) c.output_on-made.ensures
