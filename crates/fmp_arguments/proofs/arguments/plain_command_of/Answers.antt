use Rattle.fmp_arguments.proofs.FormRules.{one_more}
use Rattle.fmp_arguments.proofs.arguments.plain_command_of.Goals as goal

pub loop-argument-preserved : goal.loop-argument-preserved
loop-argument-preserved c =
    one_more c.args.form.now.name.now c.args.form.now.arguments.now c.loop-argument.argument-index _ _ _ _
    c.loop-argument-test.true c.loop-argument.invariant c.in_ok-argument_of.ensures.rule
    (c.in_ok-command.ensures.shape c.in_ok-argument_of.ensures.local)
