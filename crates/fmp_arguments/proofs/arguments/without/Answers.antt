use Rattle.std.proofs.lemmas.Result.{IfOk-weaker}
use Rattle.fmp_arguments.proofs.FormRules.{rule_without}
use Rattle.fmp_arguments.proofs.arguments.without.Goals as goal

pub returns-clause-rule : goal.returns-clause-rule
returns-clause-rule c =
    IfOk-weaker c.conflicts_with.result _ _ (λ made adds. rule_without c.args.argument made c.args.other adds)
    c.conflicts_with.ensures
