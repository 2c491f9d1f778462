use Rattle.fmp_code.proofs.Stops.{last-stops}
use Rattle.fmp_code.proofs.laws.last_instructions_stop.Goals as goal

pub returns : goal.returns
returns c = last-stops
