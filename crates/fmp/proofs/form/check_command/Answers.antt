use Rattle.std.proofs.Common.{Ok, codes}
use Rattle.clap.specs.Words.{new_app}
use Rattle.fmp.specs.Form.{file}
use Rattle.fmp.proofs.Growing.{one_rule}
use Rattle.fmp.proofs.form.check_command.Goals as goal

pub returns : goal.returns
returns c =
    let one = one_rule (Ok c.named-command.result) _ (new_app (codes "check")) _
    (file (codes "CFG")) c.named-command.ensures c.config_word.ensures.rule c.with_argument-command.ensures in
    one_rule c.with_argument-command.result _ _ _ (file (codes "SRC")) one c.tasks_word.ensures.rule
    c.with_argument.ensures

pub with_argument-command-requires : goal.with_argument-command-requires
with_argument-command-requires c = c.config_word.ensures.local

pub with_argument-requires : goal.with_argument-requires
with_argument-requires c = c.tasks_word.ensures.local
