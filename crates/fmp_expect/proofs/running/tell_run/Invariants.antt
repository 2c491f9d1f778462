use Rattle.std.proofs.Common.{◌≡◌, ◌+◌, ◌≤◌, ◌^◌, [], List, drop, length}
use Rattle.fmp_kernel.specs.Comings.{view_after_each}
use Rattle.fmp_expect.specs.declared.expectation.Expected.{Expected}
use Rattle.fmp_expect.specs.Meaning.{Told}
use Rattle.fmp_expect.specs.Runs.{rest_told, run_told}
use Rattle.fmp_expect.specs.Watches.{AreTold}
use Rattle.fmp_expect.proofs.running.tell_run.Given as goal

-- the lines that were told, and those of the events that are left, are those of the run
abbrev pub invariant-loop-e : goal.invariant-loop-e
invariant-loop-e g l = record {
  room : l.kernel.taken + length l.events ≤ 2 ^ 31 + l.e-index;
  state : view_after_each g.T.Coming.reaction l.kernel (drop l.e-index l.events)
      ≡ view_after_each g.T.Coming.reaction l.fn.kernel l.events;
  told : (xs : List Expected) → AreTold xs [] l.fn.checker → (told : List Told) × AreTold xs told l.checker
      × (rest_told g.T.Coming.reaction l.kernel (drop l.e-index l.events) told
      ≡ run_told g.T.Coming.reaction l.fn.kernel l.events);
}
