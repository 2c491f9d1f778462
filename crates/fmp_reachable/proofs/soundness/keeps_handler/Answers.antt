use Rattle.fmp_base.specs.Meanings.{context_at}
use Rattle.fmp_reachable.proofs.TestedLaws.{handler_sound}
use Rattle.fmp_reachable.proofs.soundness.keeps_handler.Goals as goal

pub returns-in-Some : goal.returns-in-Some
returns-in-Some c =
    let kernel = c.args.kernel.now in
    let on = c.body_on.ensures in
    let own = rw (c.in-Some.is, c.tables.ensures.system) at on.own in
    let starts = rw (c.in-Some.is, c.tables.ensures.system) at on.starts in
    let kept = c.keeps_context.ensures in
    λ e. handler_sound kernel.system kernel.body c.args.p c.args.h (context_at kernel.world.contexts.handlers c.args.p)
    c.in-Some.body own starts (kept.same e) (kept.goes e) (kept.locals e)
