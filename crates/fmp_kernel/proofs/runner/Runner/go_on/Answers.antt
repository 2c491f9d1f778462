use Rattle.std.proofs.Common.{ℕ, subst}
use Rattle.fmp_base.specs.Meanings.{context_of}
use Rattle.fmp_contexts.specs.Contexts.{OfHeld, OfOption, kept_after, stretched_from}
use Rattle.fmp_contexts.proofs.ContextLemmas.{fitting_set, going_has, places_set}
use Rattle.fmp_kernel.proofs.runner.Runner.go_on.Goals as goal

pub invariant_of-self : goal.invariant_of-self
invariant_of-self g c =
    let r = c.self.inside in
    let cs = r.contexts in
    let held = context_of cs c.args.p c.args.who in
    let (room, places, entries, fitting) = c.self.invariant in
    let goes = rw (← c.self.view_is) at c.requires in
    let after = kept_after (stretched_from (g.B.Body.meaning r.body) c.entry_of-entry.result r.bound held) in
    let fits = subst (λ (n : ℕ). OfOption (OfHeld (g.B.Body.is_context r.body n)) after) c.entry_of-entry.ensures
    c.stretch.ensures.fits in
    rw c.stretch.ensures.contexts (
      room,
      places_set cs c.args.p c.args.who after places,
      entries,
      fitting_set cs c.args.p c.args.who after fitting (λ t. going_has cs c.args.p c.args.who goes) fits,
    )
