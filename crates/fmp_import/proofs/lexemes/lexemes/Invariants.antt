use Rattle.std.proofs.Common.{◌-◌, ◌≤◌, length}
use Rattle.fmp_import.proofs.lexemes.lexemes.Given as goal

abbrev pub invariant-pieces : goal.invariant-pieces
invariant-pieces l = l.at ≤ length l.text

abbrev pub decreases-pieces : goal.decreases-pieces
decreases-pieces l = length l.text - l.at
