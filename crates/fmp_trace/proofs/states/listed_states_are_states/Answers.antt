use Rattle.fmp_trace.proofs.ListedStates as laws
use Rattle.fmp_trace.proofs.states.listed_states_are_states.Goals as goal

pub returns : goal.returns
returns c = laws.listed_states_are_states
