use Rattle.fmp_bisimulation.proofs.TickLaws.{ticked-same}
use Rattle.fmp_bisimulation.proofs.laws.ticks_do_the_same.Goals as goal

pub returns : goal.returns
returns c sys s u h = ticked-same sys s u h
