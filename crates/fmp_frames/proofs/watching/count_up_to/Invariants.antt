use Rattle.std.proofs.Common.{◌≡◌, ◌+◌, ◌<◌, ◌≤◌, ◌^◌, ℕ, length}
use Rattle.fmp_frames.specs.Watches.{after_first}
use Rattle.fmp_frames.proofs.watching.count_up_to.Given as goal

abbrev pub invariant-loop-e : goal.invariant-loop-e
invariant-loop-e g l = record {
  few : l.kernel.taken + length l.events ≤ 2 ^ 31 + l.e-index;
  place : l.place ≡ l.e-index;
  after : l.kernel ≡ after_first g.T.Coming.reaction l.fn.kernel l.events l.e-index;
  before : (i : ℕ) → i < l.e-index → (after_first g.T.Coming.reaction l.fn.kernel l.events i).done < l.number;
}
