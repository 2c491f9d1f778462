use Rattle.std.proofs.Common.{◌≡◌, ◌++◌, map, take, drop}
use Rattle.fmp_monitors.specs.Meaning.{OfState}
use Rattle.fmp_expect.specs.Watches.{next_watch}
use Rattle.fmp_expect.proofs.checker.tell_state.Given as goal

abbrev pub invariant-loop-watch : goal.invariant-loop-watch
invariant-loop-watch l =
    let rows = l.initial.watches in
    let next = next_watch l.number (OfState l.state.state) in
    l.watches ≡ map next (take l.watch-index rows) ++ drop l.watch-index rows
