use Rattle.std.proofs.Common.{◌≡◌, drop}
use Rattle.fmp_c.specs.Records.{changed_by}
use Rattle.fmp_c.proofs.records.all_changes.Given as goal

abbrev pub invariant-loop-line : goal.invariant-loop-line
invariant-loop-line l = changed_by l.all (drop l.line-index l.lines) ≡ changed_by 0 l.lines
