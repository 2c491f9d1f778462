use Rattle.std.proofs.lemmas.Result.{IfOk-weaker}
use Rattle.fmp_witness.specs.Asked.{asked_of}
use Rattle.fmp_explore.proofs.StuckLemmas.{none_acts}
use Rattle.fmp_explore.proofs.stuck.never_acts.Goals as goal

pub returns : goal.returns
returns g c =
    IfOk-weaker c.is_silent_about.result _ _
    (λ _ none yes. none_acts (asked_of c.args.subject.now) _ c.args.steps.now c.args.t
    c.in_ok-about.ensures (none yes)) c.is_silent_about.ensures
