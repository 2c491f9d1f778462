use Rattle.std.proofs.Common.{subst, sym, ◌∙◌, List}
use Rattle.fmp_instructions.specs.Instructions.{BodyTables}
use Rattle.fmp_instructions.specs.Machine.{code_meaning}
use Rattle.fmp_question.specs.Endless.{GoesOnForEver}
use Rattle.fmp_question.proofs.EndlessLemmas.{actor_endless}
use Rattle.fmp_question.proofs.endless.is_endless.Goals as goal

pub returns-in-Endless : goal.returns-in-Endless
returns-in-Endless c = λ _.
    actor_endless (λ bodies. code_meaning bodies) c.args.kernel.now c.args.p c.in-Some.actor
    (sym c.in-Some.is ∙ c.actor.ensures.value)
    (subst (λ (bodies : List BodyTables). GoesOnForEver (code_meaning bodies) c.in-Some.actor.entry
    c.in-Some.actor.context) c.requires (c.outlook_of.ensures.endless c.in-Endless.is))
