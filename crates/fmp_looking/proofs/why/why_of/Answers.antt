use Rattle.std.proofs.Common.{List, ℕ, subst, ◌≡◌}
use Rattle.std.proofs.lemmas.Result.{IfOk-weaker, err_from_is_err_and}
use Rattle.fmp_base.specs.Meanings.{Meaning}
use Rattle.fmp_base.specs.Steps.{Reaction}
use Rattle.fmp_base.specs.Systems.{SystemTables}
use Rattle.fmp_frames.specs.Watches.{IsWhy}
use Rattle.fmp_kernel.specs.KernelViews.{KernelView}
use Rattle.fmp_looking.proofs.Fresh.{room}
use Rattle.fmp_looking.proofs.why.why_of.Goals as goal

-- what is said of a run, by other names of the system and of the kernel
why_so : {B C X : Type 0} (meaning : B → Meaning C) (reaction : KernelView B C → X → Reaction C)
    (sys sys' : SystemTables) (k k' : KernelView B C) (xs : List X) (text : List ℕ)
    → sys ≡ sys' → k ≡ k' → IsWhy sys meaning reaction k xs text → IsWhy sys' meaning reaction k' xs text
why_so {B} {C} {X} meaning reaction sys sys' k k' xs text same is h =
    subst (λ (x : KernelView B C). IsWhy sys' meaning reaction x xs text) is
    (subst (λ (t : SystemTables). IsWhy t meaning reaction k xs text) same h)

pub why-text-requires : goal.why-text-requires
why-text-requires g c = record { few = room _ _ c.in_ok-kernel.ensures.taken c.requires }

pub returns-in_err-kernel : goal.returns-in_err-kernel
returns-in_err-kernel g c = rw ((err_from_is_err_and c.from_residual.result c.from_residual.ensures.1).1) tt

pub returns : goal.returns
returns g c =
    IfOk-weaker c.why-text.result _ _
    (λ out h. why_so _ _ _ _ _ _ _ _ c.system.ensures c.in_ok-kernel.ensures.start h) c.why-text.ensures
