use Rattle.std.proofs.Common.{ℕ, subst}
use Rattle.fmp_base.specs.Meanings.{context_of, told}
use Rattle.fmp_contexts.specs.Contexts.{OfHeld, OfOption}
use Rattle.fmp_contexts.proofs.ContextLemmas.{fitting_set}
use Rattle.fmp_contexts.proofs.HeldLemmas.{told_there}
use Rattle.fmp_contexts.proofs.deliveries.tell.Goals as goal

pub returns-clause-fitting : goal.returns-clause-fitting
returns-clause-fitting g c =
    let cs = c.args.contexts.now in
    let M = g.B.Body.meaning c.args.body.now in
    let held = context_of cs c.args.p c.args.who in
    let after = told M c.entry_of-entry.result c.args.reply held in
    let fits = subst (λ (n : ℕ). OfOption (OfHeld (g.B.Body.is_context c.args.body.now n)) after)
    c.entry_of-entry.ensures c.tell.ensures.fits in
    rw c.tell.ensures.contexts (fitting_set cs c.args.p c.args.who after c.requires.contexts
    (told_there M c.entry_of-entry.result c.args.reply held) fits)
