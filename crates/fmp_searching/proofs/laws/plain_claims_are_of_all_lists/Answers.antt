use Rattle.fmp_question.specs.Rules.{rules_of}
use Rattle.fmp_schedules.proofs.RuleLaws.{all-scheduled}
use Rattle.fmp_searching.proofs.PlainClaims.{most_none, none_limiting, queued_none, ticks_any}
use Rattle.fmp_searching.proofs.laws.plain_claims_are_of_all_lists.Goals as goal

pub returns : goal.returns
returns g c = λ q bound same sys M n forbidden es.
    all-scheduled (rules_of q) sys M n forbidden es (ticks_any q bound same) (most_none q bound same)
    (queued_none q bound same) (none_limiting q bound same)
