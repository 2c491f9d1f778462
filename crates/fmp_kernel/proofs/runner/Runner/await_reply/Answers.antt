use Rattle.std.proofs.Common.{Some}
use Rattle.fmp_base.specs.declared.bodies.Held.TheVariants.{Awaits}
use Rattle.fmp_contexts.proofs.ContextLemmas.{fitting_set, places_set}
use Rattle.fmp_kernel.proofs.runner.Runner.await_reply.Goals as goal

pub invariant_of-self : goal.invariant_of-self
invariant_of-self g c =
    let cs = c.self.inside.contexts in
    let (room, places, entries, fitting) = c.self.invariant in
    let has = rw (← c.self.view_is) at c.requires.kept in
    let fits = rw (← c.self.view_is) at c.requires.context in
    rw c.put.ensures (
      room,
      places_set cs c.args.p c.args.who _ places,
      entries,
      fitting_set cs c.args.p c.args.who (Some (Awaits c.args.context.now)) fitting (λ t. has) fits,
    )
