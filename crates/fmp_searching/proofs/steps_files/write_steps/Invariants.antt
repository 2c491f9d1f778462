use Rattle.std.proofs.Common.{map, string_bytes, take}
use Rattle.fmp_files.specs.Deeds.{Does}
use Rattle.fmp_searching.specs.Claimed.{PrintsNothing}
use Rattle.fmp_searching.specs.Deeds.{DoesOnly, IsWriteOf, WritesFront}
use Rattle.fmp_searching.specs.Files.{files_written}
use Rattle.fmp_searching.proofs.steps_files.write_steps.Given as goal

abbrev pub invariant-loop-i : goal.invariant-loop-i
invariant-loop-i g l = record {
  quiet : PrintsNothing (g.O.Outside.done l.initial.outside) (g.O.Outside.done l.outside);
  only : DoesOnly (IsWriteOf (map string_bytes l.names)) (g.O.Outside.done l.initial.outside)
      (g.O.Outside.done l.outside);
  fronts : DoesOnly (WritesFront (map string_bytes l.names) (map (λ text. text.items) l.texts))
      (g.O.Outside.done l.initial.outside) (g.O.Outside.done l.outside);
  written : Does (g.O.Outside.done l.initial.outside)
      (files_written (take l.i (map string_bytes l.names)) (take l.i (map (λ text. text.items) l.texts)))
      (g.O.Outside.done l.outside);
}
