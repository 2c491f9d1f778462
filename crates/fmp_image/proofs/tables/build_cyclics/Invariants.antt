use Rattle.std.proofs.Common.{◌≡◌, List, ◌++◌, map, take, drop}
use Rattle.fmp_tasklang.specs.Trees.{BodyTree}
use Rattle.fmp_scopes.specs.Headings.{AreHeadings}
use Rattle.fmp_image.specs.Building.{built_cyclic}
use Rattle.fmp_image.proofs.tables.build_cyclics.Given as goal

abbrev pub invariant-loop-cyclic : goal.invariant-loop-cyclic
invariant-loop-cyclic l =
    let rows = l.initial.cyclics in
    (bodies : List BodyTree) → AreHeadings l.headings bodies →
    l.cyclics ≡ map (built_cyclic bodies) (take l.cyclic-index rows) ++ drop l.cyclic-index rows
