use Rattle.std.proofs.Common.{◌≡◌}
use Rattle.fmp_arguments.specs.SettingsFaults.{BeginsAt, line_after}
use Rattle.fmp_arguments.proofs.settings_faults.through_lines.Given as goal

abbrev pub invariant-loop-at : goal.invariant-loop-at
invariant-loop-at l = record {
  is_line : l.line ≡ line_after l.text l.at;
  begins : BeginsAt l.folder l.keys l.text l.start;
}
