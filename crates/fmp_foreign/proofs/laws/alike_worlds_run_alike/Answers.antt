use Rattle.fmp_foreign.proofs.AlikeRuns.{run_alike}
use Rattle.fmp_foreign.proofs.laws.alike_worlds_run_alike.Goals as goal

pub returns : goal.returns
returns g c = λ sys F n d gs v w h. run_alike sys F n d gs v w h
