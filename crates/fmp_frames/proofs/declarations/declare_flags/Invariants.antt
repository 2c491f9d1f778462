use Rattle.std.proofs.Common.{◌≡◌, ◌++◌, drop}
use Rattle.fmp_frames.specs.Declarations.{of_each, flag_scope}
use Rattle.fmp_frames.proofs.declarations.declare_flags.Given as goal

abbrev pub invariant-loop-place : goal.invariant-loop-place
invariant-loop-place l =
    l.out.items ++ of_each flag_scope l.place (drop l.place l.sys.flags.items)
    ≡ l.initial.out.items ++ of_each flag_scope 0 l.sys.flags.items
