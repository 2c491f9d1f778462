use Rattle.std.proofs.Common.{◌≡◌, ℕ, ◌+◌, ◌<◌, get_or, length}
use Rattle.fmp_drive.specs.NextRuns.{next_run as next_run_of}
use Rattle.fmp_drive.specs.declared.next.NextRun.TheVariants as next
use Rattle.fmp_drive.proofs.next.next_runs.Given as goal

abbrev pub invariant-loop-p : goal.invariant-loop-p
invariant-loop-p g l = record {
  long : length l.runs ≡ 8;
  each : (q : ℕ) → q < l.p → get_or l.runs q next.NoActor ≡ next_run_of g.B.Body.meaning l.kernel (q + 1);
}
