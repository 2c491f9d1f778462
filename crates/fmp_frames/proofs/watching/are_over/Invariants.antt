use Rattle.std.proofs.Common.{◌≡◌, map, take}
use Rattle.fmp_frames.specs.Watches.{is_over}
use Rattle.fmp_frames.proofs.watching.are_over.Given as goal

abbrev pub invariant-loop-run : goal.invariant-loop-run
invariant-loop-run l = l.over.items ≡ map is_over (take l.run-index l.runs)
