use Rattle.std.proofs.Common.{◌-◌, ◌≤◌, length}
use Rattle.fmp_lex.proofs.stops.closed_from.Given as goal

abbrev pub invariant-bytes : goal.invariant-bytes
invariant-bytes l = record {
  from : l.fn.from.at ≤ l.at;
  within : l.at ≤ length l.text;
}

abbrev pub decreases-bytes : goal.decreases-bytes
decreases-bytes l = length l.text - l.at
