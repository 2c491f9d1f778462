use Rattle.std.proofs.Common.{List, ℕ, subst, ◌≡◌}
use Rattle.std.proofs.lemmas.Result.{IfOk-weaker, err_from_is_err_and}
use Rattle.fmp_base.specs.Meanings.{Meaning}
use Rattle.fmp_base.specs.Steps.{Reaction}
use Rattle.fmp_base.specs.Systems.{SystemTables}
use Rattle.fmp_frames.specs.Compares.{run_told}
use Rattle.fmp_kernel.specs.KernelViews.{KernelView}
use Rattle.fmp_looking.proofs.Fresh.{room}
use Rattle.fmp_looking.proofs.comparing.told_of.Goals as goal

-- what a run tells, by other names of the system and of the kernel
told_so : {B C X : Type 0} (meaning : B → Meaning C) (reaction : KernelView B C → X → Reaction C)
    (sys sys' : SystemTables) (k k' : KernelView B C) (xs : List X) (told : List (List ℕ))
    → sys ≡ sys' → k ≡ k' → told ≡ run_told sys meaning reaction k xs → told ≡ run_told sys' meaning reaction k' xs
told_so {B} {C} {X} meaning reaction sys sys' k k' xs told same is h =
    subst (λ (x : KernelView B C). told ≡ run_told sys' meaning reaction x xs) is
    (subst (λ (t : SystemTables). told ≡ run_told t meaning reaction k xs) same h)

pub told_on-told-requires : goal.told_on-told-requires
told_on-told-requires g c = record { few = room _ _ c.in_ok-kernel.ensures.taken c.requires }

pub returns-in_err-kernel : goal.returns-in_err-kernel
returns-in_err-kernel g c = rw ((err_from_is_err_and c.from_residual.result c.from_residual.ensures.1).1) tt

pub returns : goal.returns
returns g c =
    IfOk-weaker c.told_on-told.result _ _
    (λ told h. told_so g.O.Bodies.Body.meaning g.T.Coming.reaction _ _ _ _ c.args.events.now _ c.system.ensures
    c.in_ok-kernel.ensures.start h) c.told_on-told.ensures.events
