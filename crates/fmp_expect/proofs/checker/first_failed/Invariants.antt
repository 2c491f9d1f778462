use Rattle.std.proofs.Common.{◌≡◌, drop}
use Rattle.fmp_expect.specs.Watches.{first_failed}
use Rattle.fmp_expect.proofs.checker.first_failed.Given as goal

abbrev pub invariant-loop-watch : goal.invariant-loop-watch
invariant-loop-watch l =
    first_failed (drop l.watch-index l.watches) l.states l.number ≡ first_failed l.watches l.states l.number
