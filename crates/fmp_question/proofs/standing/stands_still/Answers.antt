use Rattle.fmp_question.proofs.StandLemmas.{moved}
use Rattle.fmp_question.proofs.standing.stands_still.Goals as goal

pub returns : goal.returns
returns g c =
    moved c.time_stands.result c.args.question.now.rest.items _ _ _ _ c.tables.ensures.system c.tables.ensures.state
    c.time_stands.ensures
