use Rattle.std.proofs.Common.{arith}
use Rattle.fmp_ticks.proofs.LeastLemmas.{least-fits}
use Rattle.fmp_ticks.proofs.times.earliest.Goals as goal

pub loop-time-init : goal.loop-time-init
loop-time-init c = record { least = omega (arith, least-fits c.args.times.now); fits = omega arith }
