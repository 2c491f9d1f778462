use Rattle.fmp_tasklang.proofs.Turns.{more_turns}
use Rattle.fmp_tasklang.proofs.laws.more_turns_change_nothing.Goals as goal

pub returns : goal.returns
returns c = more_turns
