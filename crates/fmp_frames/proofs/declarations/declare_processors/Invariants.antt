use Rattle.std.proofs.Common.{◌≡◌, ◌++◌, ◌-◌}
use Rattle.fmp_frames.specs.Declarations.{processors_from}
use Rattle.fmp_frames.proofs.declarations.declare_processors.Given as goal

abbrev pub invariant-loop-place : goal.invariant-loop-place
invariant-loop-place l =
    l.out.items ++ processors_from l.has_locks l.place (l.count - l.place)
    ≡ l.initial.out.items ++ processors_from l.has_locks 0 l.count
