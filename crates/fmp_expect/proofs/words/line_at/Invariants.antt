use Rattle.std.proofs.Common.{◌≡◌, ◌-◌, [], get_or, length}
use Rattle.fmp_expect.specs.Words.{lines_of}
use Rattle.fmp_expect.proofs.words.line_at.Given as goal

-- the line stands as many lines on as are left
abbrev pub invariant-loop-rest : goal.invariant-loop-rest
invariant-loop-rest l = get_or (lines_of l.rest) l.left [] ≡ get_or (lines_of l.text) (l.number - 1) []

abbrev pub decreases-loop-rest : goal.decreases-loop-rest
decreases-loop-rest l = length l.rest
