use Rattle.std.proofs.Common.{◌≡◌, map, string_bytes}
use Rattle.fmp_searching.specs.Files.{steps_names}
use Rattle.fmp_searching.proofs.steps_files.steps_names.Given as goal

abbrev pub invariant-loop-i : goal.invariant-loop-i
invariant-loop-i l = map string_bytes l.names.items ≡ steps_names l.out l.i
