use Rattle.std.proofs.Common.{◌∙◌, ap, sym, Option}
use Rattle.fmp_base.specs.Meanings.{context_of}
use Rattle.fmp_contexts.proofs.ContextLemmas.{goes_in}
use Rattle.fmp_contexts.proofs.HeldLemmas.{going_some}
use Rattle.fmp_kernel.proofs.runner.Runner.first_context.Goals as goal

pub returns-clause-context : goal.returns-clause-context
returns-clause-context g c =
    let cs = c.self.inside.contexts in
    let (room, places, entries, fitting) = c.self.invariant in
    let first = c.in-Some.context.now in
    let going = rw (c.in-Some.is) at c.going.ensures in
    rw (← c.self.view_is) (goes_in cs c.args.p c.args.who first fitting
    (going_some (context_of cs c.args.p c.args.who) first (sym going)))
