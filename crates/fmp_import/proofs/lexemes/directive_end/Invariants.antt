use Rattle.std.proofs.Common.{◌-◌, ◌≤◌, length}
use Rattle.fmp_import.proofs.lexemes.directive_end.Given as goal

abbrev pub invariant-parts : goal.invariant-parts
invariant-parts l = (l.from ≤ l.at) × (l.at ≤ length l.text)

abbrev pub decreases-parts : goal.decreases-parts
decreases-parts l = length l.text - l.at
