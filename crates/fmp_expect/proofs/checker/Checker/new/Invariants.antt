use Rattle.std.proofs.Common.{◌≡◌, [], map, take}
use Rattle.fmp_expect.specs.Watches.{watch_of}
use Rattle.fmp_expect.proofs.checker.Checker.new.Given as goal

abbrev pub invariant-loop-one : goal.invariant-loop-one
invariant-loop-one l = l.watches.items ≡ map (watch_of []) (take l.one-index l.expected)
