use Rattle.fmp_contexts.proofs.RestoreLemmas.{fitting_begun}
use Rattle.fmp_contexts.proofs.restoring.restore_on.Goals as goal

pub returns-in-Some-accepted_start-clause-fitting : goal.returns-in-Some-accepted_start-clause-fitting
returns-in-Some-accepted_start-clause-fitting g c =
    let begun = c.in-Some-accepted_start in
    rw c.begin_handler.ensures
    (fitting_begun c.args.contexts.now c.args.p c.in-Some.h begun.start c.in-Some-saved.context
    c.requires.contexts c.requires.entries begun.ensures.start begun.ensures.context)
