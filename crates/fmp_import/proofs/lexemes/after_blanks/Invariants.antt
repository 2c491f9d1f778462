use Rattle.std.proofs.Common.{◌-◌, ◌≤◌, length}
use Rattle.fmp_import.proofs.lexemes.after_blanks.Given as goal

abbrev pub invariant-blanks : goal.invariant-blanks
invariant-blanks l = l.at ≤ length l.text

abbrev pub decreases-blanks : goal.decreases-blanks
decreases-blanks l = length l.text - l.at
