use Rattle.fmp_server.proofs.Joining.{then_ok}
use Rattle.fmp_server.proofs.Notices.{notifies_none, notifies_further}
use Rattle.fmp_server.proofs.workspace.Workspace.publish.Goals as goal

pub returns-in_default : goal.returns-in_default
returns-in_default c = notifies_none _

pub returns : goal.returns
returns c =
    then_ok c.publish_one-2.result c.publish_one-2.ensures
    (λ second. notifies_further _ _ _ c.in_ok-publish_one.ensures second)
