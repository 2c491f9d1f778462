use Rattle.std.proofs.Common.{◌≡◌, drop}
use Rattle.fmp_searching.specs.Claims.{forbids_fault}
use Rattle.fmp_searching.proofs.claiming.forbids_fault.Given as goal

abbrev pub invariant-loop-never : goal.invariant-loop-never
invariant-loop-never l =
    forbids_fault (drop l.never-index l.nevers) l.fault ≡ forbids_fault l.nevers l.fault
