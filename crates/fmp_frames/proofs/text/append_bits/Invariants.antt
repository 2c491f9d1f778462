use Rattle.std.proofs.Common.{◌≡◌, ◌++◌, ◌-◌}
use Rattle.fmp_frames.specs.Dumps.{bits}
use Rattle.fmp_frames.proofs.text.append_bits.Given as goal

abbrev pub invariant-loop-place : goal.invariant-loop-place
invariant-loop-place l =
    l.out.items ++ bits (l.width - l.place) l.number ≡ l.initial.out.items ++ bits l.width l.number
