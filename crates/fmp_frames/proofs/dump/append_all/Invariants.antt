use Rattle.std.proofs.Common.{◌≡◌, ◌++◌, drop}
use Rattle.fmp_frames.specs.Dumps.{values_text}
use Rattle.fmp_frames.proofs.dump.append_all.Given as goal

abbrev pub invariant-loop-place : goal.invariant-loop-place
invariant-loop-place l =
    l.out.items ++ values_text l.place (drop l.place l.variables) l.rest
    ≡ l.initial.out.items ++ values_text 0 l.variables l.values
