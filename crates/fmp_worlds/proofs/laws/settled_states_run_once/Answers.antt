use Rattle.fmp_worlds.proofs.SettledLaws.{IsSettled-run_once}
use Rattle.fmp_worlds.proofs.laws.settled_states_run_once.Goals as goal

pub returns : goal.returns
returns c sys s h = IsSettled-run_once sys s h
