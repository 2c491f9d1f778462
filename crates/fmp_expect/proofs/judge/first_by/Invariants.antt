use Rattle.std.proofs.Common.{◌≡◌, drop}
use Rattle.fmp_expect.specs.Judges.{first_by}
use Rattle.fmp_expect.proofs.judge.first_by.Given as goal

abbrev pub invariant-loop-line : goal.invariant-loop-line
invariant-loop-line g l =
    first_by (g.J.LineJudge.breaks l.judge l.kernel) (drop l.line-index l.lines)
    ≡ first_by (g.J.LineJudge.breaks l.judge l.kernel) l.lines
