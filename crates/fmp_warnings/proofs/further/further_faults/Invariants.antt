use Rattle.fmp_warnings.specs.Further.{LeadsTo, both_left, both_of}
use Rattle.fmp_warnings.proofs.further.further_faults.Given as goal

abbrev pub invariant-loop-round : goal.invariant-loop-round
invariant-loop-round l = LeadsTo (both_of l.texts) l.fault (both_left l.left) l.left.fault l.told.items
