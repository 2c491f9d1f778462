use Rattle.std.proofs.Common.{◌≡◌}
use Rattle.fmp_arguments.specs.SettingsFaults.{line_after}
use Rattle.fmp_arguments.proofs.settings_faults.line_after.Given as goal

abbrev pub invariant-loop-at : goal.invariant-loop-at
invariant-loop-at l = l.line ≡ line_after l.text l.at
