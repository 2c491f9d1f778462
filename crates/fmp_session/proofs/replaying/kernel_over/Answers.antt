use Rattle.std.proofs.Common.{◌∙◌, ap}
use Rattle.std.proofs.lemmas.Result.{err_from_is_err_and}
use Rattle.fmp_instructions.specs.Machine.{code_meaning}
use Rattle.fmp_kernel.specs.KernelViews.{view_after_all}
use Rattle.fmp_session.proofs.Following.{Kernels, room, taken_from_setup}
use Rattle.fmp_session.proofs.replaying.kernel_over.Goals as goal

pub returns-in_err-kernel : goal.returns-in_err-kernel
returns-in_err-kernel c = rw ((err_from_is_err_and c.from_residual.result c.from_residual.ensures.1).1) tt

pub take_all-requires : goal.take_all-requires
take_all-requires c = room _ _ (ap (λ (k : Kernels). k.taken) c.in_ok-kernel.ensures) c.requires.few

pub returns : goal.returns
returns c =
    c.take_all.ensures
    ∙ ap (λ (k : Kernels). view_after_all code_meaning k c.args.events.now) c.in_ok-kernel.ensures
    ∙ taken_from_setup c.args.image.now c.args.n c.args.events.now c.requires.legal
