use Rattle.std.proofs.Common.{◌≡◌, ◌++◌, length}
use Rattle.fmp_recording.specs.Recordings.{times_of}
use Rattle.fmp_recording.proofs.reading.read_times.Given as goal

-- the times so far, and those of the lines that are left, are those of the text
abbrev pub invariant-loop-rest : goal.invariant-loop-rest
invariant-loop-rest l = l.times.items ++ times_of l.rest ≡ times_of l.text

abbrev pub decreases-loop-rest : goal.decreases-loop-rest
decreases-loop-rest l = length l.rest
