use Rattle.std.proofs.Common.{◌≡◌, ◌++◌, drop, map}
use Rattle.fmp_tasklang.specs.Views.{body_view}
use Rattle.fmp_export.specs.Bodies.{c_commented_bodies}
use Rattle.fmp_export.specs.Sources.{source_view}
use Rattle.fmp_export.proofs.bodies.append_commented_bodies.Given as goal

abbrev pub invariant-loop-body : goal.invariant-loop-body
invariant-loop-body l =
    l.out.items ++ c_commented_bodies (source_view l.source) l.lines.items (map body_view (drop l.body-index l.bodies))
    ≡ l.initial.out.items ++ c_commented_bodies (source_view l.source) l.above (map body_view l.bodies)
