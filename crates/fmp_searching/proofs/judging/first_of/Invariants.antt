use Rattle.std.proofs.Common.{◌≡◌, drop}
use Rattle.fmp_searching.specs.Tests.{first_of}
use Rattle.fmp_searching.proofs.judging.first_of.Given as goal

abbrev pub invariant-loop-i : goal.invariant-loop-i
invariant-loop-i l = first_of l.asked l.i (drop l.i l.seen) ≡ first_of l.asked 0 l.seen
