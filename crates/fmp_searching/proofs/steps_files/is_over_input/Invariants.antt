use Rattle.std.proofs.Common.{map, string_bytes, take}
use Rattle.std.specs.List.{AllByRecursion}
use Rattle.fmp_searching.specs.Files.{IsApart}
use Rattle.fmp_searching.proofs.steps_files.is_over_input.Given as goal

abbrev pub invariant-loop-i : goal.invariant-loop-i
invariant-loop-i g l = AllByRecursion (IsApart l.exploring) (take l.i (map string_bytes l.names))
