use Rattle.std.proofs.Common.{◌≡◌, ◌++◌, drop, map}
use Rattle.fmp_tasklang.specs.Views.{body_view}
use Rattle.fmp_export.specs.Bodies.{c_prototypes}
use Rattle.fmp_export.proofs.bodies.append_prototypes.Given as goal

abbrev pub invariant-loop-body : goal.invariant-loop-body
invariant-loop-body l =
    l.out.items ++ c_prototypes (map body_view (drop l.body-index l.bodies))
    ≡ l.initial.out.items ++ c_prototypes (map body_view l.bodies)
