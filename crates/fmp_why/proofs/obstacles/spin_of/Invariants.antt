use Rattle.std.proofs.Common.{◌≡◌, drop}
use Rattle.fmp_why.specs.Obstacles.{spin_of}
use Rattle.fmp_why.proofs.obstacles.spin_of.Given as goal

abbrev pub invariant-loop-cpu : goal.invariant-loop-cpu
invariant-loop-cpu l =
    spin_of (drop l.cpu-index l.processors) l.rest l.task ≡ spin_of l.processors l.spins l.task
