use Rattle.fmp_engine.proofs.BoardFaults.{why_no_board}
use Rattle.fmp_engine.proofs.hosting.fault_of.Goals as goal

pub returns-in_default : goal.returns-in_default
returns-in_default c i work = why_no_board _ i work c.in_default.not-Memory c.requires.0 c.requires.1 c.requires.2
    c.requires.3
