use Rattle.std.proofs.Common.{[], sym}
use Rattle.std.proofs.lemmas.List.{append-nil}
use Rattle.fmp_server.proofs.Joining.{then_ok}
use Rattle.fmp_server.proofs.Taking.{step_ended, step_read}
use Rattle.fmp_server.proofs.workspace.Workspace.take_message.Goals as goal

pub returns-in-Ended : goal.returns-in-Ended
returns-in-Ended c = ([], step_ended _ _ _ _ c.in-Ended.is, sym (append-nil _))

pub returns-in_default : goal.returns-in_default
returns-in_default c =
    then_ok c.read.result c.read.ensures (λ r. (r.0, step_read _ _ _ _ _ c.in_default.not-Ended r.1, r.2))
