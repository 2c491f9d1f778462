use Rattle.std.proofs.Common.{◌≡◌, ◌-◌, ◌≤◌, map, drop, length}
use Rattle.fmp_server.specs.Framing.{part_of, fed, fed_after}
use Rattle.fmp_server.proofs.framing.Framing.take.Given as goal

abbrev pub invariant-stretches : goal.invariant-stretches
invariant-stretches l = record {
  within : l.at ≤ length l.bytes;
  reads : fed_after (part_of l.self) (map (λ m. m.items) l.messages.items) (drop l.at l.bytes)
      ≡ fed (part_of l.fn.self) l.bytes;
}

abbrev pub decreases-stretches : goal.decreases-stretches
decreases-stretches l = length l.initial.bytes - l.at
