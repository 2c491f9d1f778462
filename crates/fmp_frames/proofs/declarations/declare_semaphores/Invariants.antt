use Rattle.std.proofs.Common.{◌≡◌, ◌++◌, drop}
use Rattle.fmp_frames.specs.Declarations.{of_each, semaphore_scope}
use Rattle.fmp_frames.proofs.declarations.declare_semaphores.Given as goal

abbrev pub invariant-loop-place : goal.invariant-loop-place
invariant-loop-place l =
    l.out.items ++ of_each semaphore_scope l.place (drop l.place l.sys.semaphores.items)
    ≡ l.initial.out.items ++ of_each semaphore_scope 0 l.sys.semaphores.items
