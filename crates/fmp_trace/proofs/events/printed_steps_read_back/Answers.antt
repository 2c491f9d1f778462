use Rattle.fmp_trace.proofs.PrintedSteps as laws
use Rattle.fmp_trace.proofs.events.printed_steps_read_back.Goals as goal

pub returns : goal.returns
returns c = laws.printed_steps_read_back
