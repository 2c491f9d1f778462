use Rattle.fmp_kernel.proofs.RestoredLemmas.{settled_on}
use Rattle.fmp_kernel.proofs.restoring.is_settled_on.Goals as goal

pub returns : goal.returns
returns g c =
    λ e. settled_on _ _ _ c.args.p c.processor-cpu.result c.processor-cpu.ensures
    (c.runs_own.ensures c.if-not-runs_own.false) (c.has_begun.ensures c.if-not-has_begun.false)
    (c.keeps_handler.ensures.kept e) (c.keeps_handler.ensures.free e)
