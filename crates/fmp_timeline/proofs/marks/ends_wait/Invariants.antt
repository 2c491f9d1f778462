use Rattle.std.proofs.Common.{◌≡◌, drop}
use Rattle.std.specs.List.{list_any}
use Rattle.fmp_timeline.specs.Marks.{is_release}
use Rattle.fmp_timeline.proofs.marks.ends_wait.Given as goal

abbrev pub invariant-loop-line : goal.invariant-loop-line
invariant-loop-line l = list_any is_release (drop l.line-index l.lines) ≡ list_any is_release l.lines
