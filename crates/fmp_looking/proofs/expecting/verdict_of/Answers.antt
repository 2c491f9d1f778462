use Rattle.std.proofs.Common.{◌∙◌, ap}
use Rattle.std.proofs.lemmas.Result.{IfOk-weaker, err_from_is_err_and}
use Rattle.fmp_trials.specs.Verdicts.{verdict}
use Rattle.fmp_looking.specs.Expects.{empty_claims}
use Rattle.fmp_looking.proofs.Fresh.{room}
use Rattle.fmp_looking.proofs.expecting.verdict_of.Goals as goal

pub verdict_on-verdict-requires : goal.verdict_on-verdict-requires
verdict_on-verdict-requires g c = room _ _ c.in_ok-kernel.ensures.taken c.requires

pub returns-in_err-kernel-clause-broken : goal.returns-in_err-kernel-clause-broken
returns-in_err-kernel-clause-broken g c =
    rw ((err_from_is_err_and c.from_residual.result c.from_residual.ensures.1).1) tt

pub returns-in_err-kernel-clause-empty : goal.returns-in_err-kernel-clause-empty
returns-in_err-kernel-clause-empty g c =
    rw ((err_from_is_err_and c.from_residual.result c.from_residual.ensures.1).1) tt

pub returns-clause-broken : goal.returns-clause-broken
returns-clause-broken g c =
    IfOk-weaker c.verdict_on-verdict.result _ _
    (λ v h. h
    ∙ ap (λ k. verdict g.T.Coming.reaction k c.args.events.now c.args.expected.now) c.in_ok-kernel.ensures.start)
    c.verdict_on-verdict.ensures.broken

pub returns-clause-empty : goal.returns-clause-empty
returns-clause-empty g c =
    IfOk-weaker c.verdict_on-verdict.result _ _
    (λ v h. h
    ∙ ap (λ k. empty_claims g.T.Coming.reaction k c.args.events.now c.args.expected.now) c.in_ok-kernel.ensures.start)
    c.verdict_on-verdict.ensures.empty
