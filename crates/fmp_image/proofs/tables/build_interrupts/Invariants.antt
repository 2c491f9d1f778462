use Rattle.std.proofs.Common.{◌≡◌, List, ◌++◌, map, take, drop}
use Rattle.fmp_tasklang.specs.Trees.{BodyTree}
use Rattle.fmp_scopes.specs.Headings.{AreHeadings}
use Rattle.fmp_image.specs.Building.{built_interrupt}
use Rattle.fmp_image.proofs.tables.build_interrupts.Given as goal

abbrev pub invariant-loop-interrupt : goal.invariant-loop-interrupt
invariant-loop-interrupt l =
    let rows = l.initial.interrupts in
    (bodies : List BodyTree) → AreHeadings l.headings bodies →
    l.interrupts ≡ map (built_interrupt bodies) (take l.interrupt-index rows) ++ drop l.interrupt-index rows
