use Rattle.std.proofs.Common.{map, take}
use Rattle.fmp_arguments.specs.Settings.{setting_view}
use Rattle.fmp_arguments.proofs.Lines.{begins_after, is_read}
use Rattle.fmp_arguments.proofs.settings_faults.look_through.Goals as goal

pub returns-in-Read : goal.returns-in-Read
returns-in-Read c =
    let folder = c.args.folder.now in
    let keys = c.args.keys.now in
    let text = c.args.text.now in
    let says = rw c.in-Read.is at c.in_ok-look_at.ensures in
    begins_after folder keys text c.args.end.next c.args.end.position c.requires.is_line
    (is_read folder keys (take c.args.end.position text) (map setting_view c.in-Read.field-0.items) says)
