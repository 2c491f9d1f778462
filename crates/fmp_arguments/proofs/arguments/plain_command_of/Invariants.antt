use Rattle.std.proofs.Common.{◌≡◌, map, take}
use Rattle.clap.specs.Words.{app_of}
use Rattle.fmp_arguments.specs.Forms.{command, rule_of_argument}
use Rattle.fmp_arguments.proofs.arguments.plain_command_of.Given as goal

abbrev pub invariant-loop-argument : goal.invariant-loop-argument
invariant-loop-argument l = app_of l.command ≡
    command l.form.name.now (map rule_of_argument (take l.argument-index l.form.arguments.now))
