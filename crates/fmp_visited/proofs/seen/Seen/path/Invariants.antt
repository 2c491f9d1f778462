use Rattle.std.proofs.Common.{◌≡◌, ◌++◌, ◌-◌}
use Rattle.std.specs.Prelude.{reverse}
use Rattle.fmp_visited.specs.Links.{last_events, path_of}
use Rattle.fmp_visited.proofs.seen.Seen.path.Given as goal

abbrev pub invariant-loop-event : goal.invariant-loop-event
invariant-loop-event l =
    last_events (l._event-end - l._event) l.self.links l.at ++ reverse l.events.items ≡ path_of l.self.links l.i
