use Rattle.std.proofs.Common.{◌≡◌, List, Option, ℕ, subst}
use Rattle.std.proofs.lemmas.Result.{IfOk-weaker, err_from_is_err_and}
use Rattle.fmp_base.specs.Meanings.{Meaning}
use Rattle.fmp_base.specs.Steps.{Reaction}
use Rattle.fmp_base.specs.Systems.{SystemTables}
use Rattle.fmp_kernel.specs.KernelViews.{KernelView}
use Rattle.fmp_warnings.specs.declared.verdicts.Form.{Form}
use Rattle.fmp_looking.specs.Traces.{IsTrace}
use Rattle.fmp_looking.proofs.Fresh.{room}
use Rattle.fmp_looking.proofs.tracing.trace_of.Goals as goal
use Rattle.fmp_frames.specs.declared.call_positions.CallPosition.{CallPosition}

-- a trace, by other names of the system and of the kernel
traced_so : {B C X : Type 0} (form : Form) (positions : List (Option CallPosition)) (meaning : B → Meaning C)
    (reaction : KernelView B C → X → Reaction C)
    (sys sys' : SystemTables) (k k' : KernelView B C) (xs : List X) (out : List ℕ)
    → sys ≡ sys' → k ≡ k' → IsTrace form sys positions meaning reaction k xs out
    → IsTrace form sys' positions meaning reaction k' xs out
traced_so {B} {C} {X} form positions meaning reaction sys sys' k k' xs out same is h =
    subst (λ (x : KernelView B C). IsTrace form sys' positions meaning reaction x xs out) is
    (subst (λ (t : SystemTables). IsTrace form t positions meaning reaction k xs out) same h)

pub returns-in_err-kernel : goal.returns-in_err-kernel
returns-in_err-kernel g c = rw ((err_from_is_err_and c.from_residual.result c.from_residual.ensures.1).1) tt

pub trace_on-trace-requires : goal.trace_on-trace-requires
trace_on-trace-requires g c = record { few = room _ _ c.in_ok-kernel.ensures.taken c.requires }

pub returns : goal.returns
returns g c =
    IfOk-weaker c.trace_on-trace.result _ _
    (λ out h. traced_so _ _ _ _ _ _ _ _ _ _ c.system.ensures c.in_ok-kernel.ensures.start h) c.trace_on-trace.ensures
