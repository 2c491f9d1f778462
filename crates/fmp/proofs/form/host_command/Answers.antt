use Rattle.std.proofs.Common.{Ok, codes}
use Rattle.clap.specs.Words.{new_app}
use Rattle.fmp.specs.Form.{bound, count, file, number}
use Rattle.fmp.proofs.Growing.{one_rule}
use Rattle.fmp.proofs.form.host_command.Goals as goal

pub returns : goal.returns
returns c =
    let one = one_rule (Ok c.named-command.result) _ (new_app (codes "host")) _
    (file (codes "IMAGE")) c.named-command.ensures c.image_word.ensures.rule c.with_argument-command.ensures in
    let two = one_rule c.with_argument-command.result _ _ _ (file (codes "JOURNAL")) one c.file_word.ensures.rule
    c.with_argument-command-2.ensures in
    let three = one_rule c.with_argument-command-2.result _ _ _ (count (codes "turns")) two
    c.count_option.ensures.rule c.with_argument-command-3.ensures in
    let four = one_rule c.with_argument-command-3.result _ _ _ (count (codes "ticks")) three
    c.count_option-2.ensures.rule c.with_argument-command-4.ensures in
    let five = one_rule c.with_argument-command-4.result _ _ _ (number (codes "tick-us") 1000000) four
    c.number_option.ensures.rule c.with_argument-command-5.ensures in
    let six = one_rule c.with_argument-command-5.result _ _ _ (number (codes "int") 32) five
    c.number_option-2.ensures.rule c.with_argument-command-6.ensures in
    one_rule c.with_argument-command-6.result _ _ _ bound six c.bound_option.ensures.rule c.with_argument.ensures

pub with_argument-command-requires : goal.with_argument-command-requires
with_argument-command-requires c = c.image_word.ensures.local

pub with_argument-command-requires-2 : goal.with_argument-command-requires-2
with_argument-command-requires-2 c = c.file_word.ensures.local

pub with_argument-command-requires-3 : goal.with_argument-command-requires-3
with_argument-command-requires-3 c = c.count_option.ensures.local

pub with_argument-command-requires-4 : goal.with_argument-command-requires-4
with_argument-command-requires-4 c = c.count_option-2.ensures.local

pub with_argument-command-requires-5 : goal.with_argument-command-requires-5
with_argument-command-requires-5 c = c.number_option.ensures.local

pub with_argument-command-requires-6 : goal.with_argument-command-requires-6
with_argument-command-requires-6 c = c.number_option-2.ensures.local

pub with_argument-requires : goal.with_argument-requires
with_argument-requires c = c.bound_option.ensures.local
