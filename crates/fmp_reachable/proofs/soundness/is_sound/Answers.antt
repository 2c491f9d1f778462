use Rattle.fmp_reachable.proofs.TestedLaws.{tested_sound}
use Rattle.fmp_reachable.proofs.soundness.is_sound.Goals as goal

pub returns : goal.returns
returns c =
    let kernel = c.args.kernel.now in
    let e = c.tables-tables.ensures in
    let kept = rw (e.system, e.state) at c.state_is_kept.ensures in
    let calm = c.is_quiet.ensures c.if-not-is_quiet.false in
    let quiet = rw (e.system, e.state) at calm in
    λ h.
    let filled = c.are_within_capacity.ensures h in
    let words = rw (e.system, e.state) at filled in
    tested_sound kernel.system kernel.body kernel.world kept c.world_is_settled.ensures c.contexts_fit.ensures.places
    c.contexts_fit.ensures.fitting (c.are_sound_tasks.ensures c.if-not-are_sound_tasks.false)
    (c.are_sound_processors.ensures c.if-not-are_sound_processors.false) words quiet
