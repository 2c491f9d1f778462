use Rattle.fmp_reachable.proofs.TestedLaws.{sound_task}
use Rattle.fmp_reachable.proofs.soundness.is_sound_task.Goals as goal

pub returns : goal.returns
returns c =
    let kernel = c.args.kernel.now in
    λ e. sound_task kernel.system kernel.body kernel.world c.args.t c.block_of-x.result c.block_of-x.ensures
    (c.is_at_rest.ensures c.if-not-is_at_rest.false) (c.awaits_if_waiting.ensures c.if-not-awaits_if_waiting.false)
    c.body_of_task.result c.body_of_task.ensures (c.keeps_own_locals.ensures e)
