use Rattle.std.proofs.Common.{Some}
use Rattle.fmp_base.specs.declared.bodies.Held.TheVariants.{Goes}
use Rattle.fmp_contexts.proofs.ContextLemmas.{fitting_set, places_set}
use Rattle.fmp_kernel.proofs.runner.Runner.reply_at_once.Goals as goal

pub invariant_of-self : goal.invariant_of-self
invariant_of-self g c =
    let cs = c.self.inside.contexts in
    let (room, places, entries, fitting) = c.self.invariant in
    let has = rw (← c.self.view_is) at c.requires.kept in
    let fits = rw (c.entry_of-entry.ensures) at c.deliver-told.ensures.context in
    rw (c.put.ensures, c.push_reserved.ensures.capacity, c.clear.ensures.capacity) (
      room,
      places_set cs c.args.p c.args.who _ places,
      entries,
      fitting_set cs c.args.p c.args.who (Some (Goes c.deliver-told.result)) fitting (λ t. has) fits,
    )
