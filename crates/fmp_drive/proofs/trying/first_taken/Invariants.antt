use Rattle.std.proofs.Common.{◌≡◌, ◌≤◌}
use Rattle.fmp_drive.specs.Driving.{AllStand}
use Rattle.fmp_drive.proofs.trying.first_taken.Given as goal

abbrev pub invariant-loop-number : goal.invariant-loop-number
invariant-loop-number g l =
    record {
      same : l.kernel ≡ l.fn.kernel;
      from : l.first ≤ l.number;
      stand : AllStand g.B.Body.meaning l.fn.kernel l.source l.first l.number;
    }
