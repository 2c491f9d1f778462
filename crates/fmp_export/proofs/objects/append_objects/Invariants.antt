use Rattle.std.proofs.Common.{◌≡◌, ◌+◌, ◌++◌, drop, map}
use Rattle.fmp_export.specs.Files.{c_objects}
use Rattle.fmp_export.proofs.objects.append_objects.Given as goal

abbrev pub invariant-loop-place : goal.invariant-loop-place
invariant-loop-place g l =
    l.out.items ++ c_objects (l.place + 1) (map g.T.HasName.name_of (drop l.place l.rows))
    ≡ l.initial.out.items ++ c_objects 1 (map g.T.HasName.name_of l.rows)
