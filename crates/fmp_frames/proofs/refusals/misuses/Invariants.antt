use Rattle.std.proofs.Common.{◌≡◌, ◌++◌, drop}
use Rattle.std.specs.List.{flat_map}
use Rattle.fmp_frames.specs.Refusals.{misuse}
use Rattle.fmp_frames.proofs.refusals.misuses.Given as goal

abbrev pub invariant-loop-code : goal.invariant-loop-code
invariant-loop-code l = l.codes.items ++ flat_map misuse (drop l.code-index l.answers) ≡ flat_map misuse l.answers
