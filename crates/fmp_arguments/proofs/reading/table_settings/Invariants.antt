use Rattle.std.proofs.Common.{◌≡◌, map}
use Rattle.toml.specs.View.{members_view}
use Rattle.fmp_arguments.specs.declared.reading.Wrong.{Wrong}
use Rattle.fmp_arguments.specs.SettingsFaults.{IsWrongAmong}
use Rattle.fmp_arguments.specs.Settings.{members_settings, prepend, setting_view}
use Rattle.fmp_arguments.proofs.reading.table_settings.Given as goal

abbrev pub invariant-members : goal.invariant-members
invariant-members l = record {
  says :
      prepend (map setting_view l.settings.items) (members_settings l.folder l.keys (members_view l.name-iterator))
      ≡ members_settings l.folder l.keys (members_view l.table.entries);
  among :
      (w : Wrong) → IsWrongAmong l.folder l.keys (members_view l.name-iterator) w
      → IsWrongAmong l.folder l.keys (members_view l.table.entries) w;
}
