use Rattle.fmp_reachable.proofs.TestedLaws.{clear_locals}
use Rattle.fmp_reachable.proofs.soundness.has_clear_locals.Goals as goal

pub returns : goal.returns
returns c =
    λ e. clear_locals c.args.own c.args.context.now c.is_clear_from.ensures.long (c.is_clear_from.ensures.clear e)
