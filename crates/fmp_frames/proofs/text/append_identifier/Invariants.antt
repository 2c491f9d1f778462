use Rattle.std.proofs.Common.{◌≡◌, ◌++◌, ◌-◌}
use Rattle.fmp_frames.specs.Dumps.{digits}
use Rattle.fmp_frames.proofs.text.append_identifier.Given as goal

abbrev pub invariant-loop-digit : goal.invariant-loop-digit
invariant-loop-digit l = l.out.items ++ digits (3 - l._digit) l.rest ≡ l.initial.out.items ++ digits 3 l.place
