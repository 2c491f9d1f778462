use Rattle.std.proofs.Common.{◌≡◌, drop}
use Rattle.fmp_drive.specs.Plans.{waits_after_all}
use Rattle.fmp_drive.proofs.limits.note_waits.Given as goal

abbrev pub invariant-loop-line : goal.invariant-loop-line
invariant-loop-line l =
    waits_after_all l.ending (drop l.line-index l.lines) ≡ waits_after_all l.initial.ending l.lines
