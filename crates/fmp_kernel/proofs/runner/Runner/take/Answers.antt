use Rattle.std.proofs.Common.{None, Some}
use Rattle.fmp_base.specs.declared.bodies.Held.TheVariants.{Awaits, Goes}
use Rattle.fmp_contexts.proofs.ContextLemmas.{fitting_set, going_has, places_set}
use Rattle.fmp_kernel.proofs.runner.Runner.take.Goals as goal

pub invariant_of-self : goal.invariant_of-self
invariant_of-self g c =
    let cs = c.self.inside.contexts in
    let (room, places, entries, fitting) = c.self.invariant in
    let goes = rw (← c.self.view_is) at c.requires.goes in
    let fits = rw (← c.self.view_is, c.in-Over.is) at c.requires.context in
    rw c.put.ensures (
      room,
      places_set cs c.args.p c.args.who _ places,
      entries,
      fitting_set cs c.args.p c.args.who (Some (Goes c.in-Over.context)) fitting
          (λ t. going_has cs c.args.p c.args.who goes) fits,
    )

pub invariant_of-self-in-Call : goal.invariant_of-self-in-Call
invariant_of-self-in-Call g c =
    let cs = c.self.inside.contexts in
    let (room, places, entries, fitting) = c.self.invariant in
    let goes = rw (← c.self.view_is) at c.requires.goes in
    let fits = rw (← c.self.view_is, c.in-Call.is) at c.requires.context in
    rw c.put-in-Call.ensures (
      room,
      places_set cs c.args.p c.args.who _ places,
      entries,
      fitting_set cs c.args.p c.args.who (Some (Awaits c.in-Call.context)) fitting
          (λ t. going_has cs c.args.p c.args.who goes) fits,
    )

pub invariant_of-self-in-End : goal.invariant_of-self-in-End
invariant_of-self-in-End g c =
    let cs = c.self.inside.contexts in
    let (room, places, entries, fitting) = c.self.invariant in
    rw c.forget.ensures (
      room,
      places_set cs c.args.p c.args.who None places,
      entries,
      fitting_set cs c.args.p c.args.who None fitting (λ t. absurd t) tt,
    )

pub invariant_of-self-in-Fault : goal.invariant_of-self-in-Fault
invariant_of-self-in-Fault g c =
    let cs = c.self.inside.contexts in
    let (room, places, entries, fitting) = c.self.invariant in
    rw c.forget-in-Fault.ensures (
      room,
      places_set cs c.args.p c.args.who None places,
      entries,
      fitting_set cs c.args.p c.args.who None fitting (λ t. absurd t) tt,
    )
