use Rattle.std.proofs.Common.{◌≡◌, ◌++◌, drop}
use Rattle.fmp_why.specs.Reports.{holder_lines, sight_of}
use Rattle.fmp_why.proofs.report.append_holders.Given as goal

abbrev pub invariant-loop-place : goal.invariant-loop-place
invariant-loop-place l =
    l.out.items ++ holder_lines (sight_of l.scene) l.place (drop l.place l.scene.processors.now) l.rest
    ≡ l.initial.out.items ++ holder_lines (sight_of l.scene) 0 l.scene.processors.now l.scene.over.now
