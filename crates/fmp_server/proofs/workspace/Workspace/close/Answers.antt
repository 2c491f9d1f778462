use Rattle.fmp_server.proofs.Joining.{then_ok}
use Rattle.fmp_server.proofs.Notices.{notifies_one, notifies_further}
use Rattle.fmp_server.proofs.workspace.Workspace.close.Goals as goal

pub returns-clause-answers : goal.returns-clause-answers
returns-clause-answers c =
    let first = notifies_one (λ b. b.items) _ _ _ c.in_ok-push.ensures.items c.in_ok-cleared.ensures in
    then_ok c.publish.result c.publish.ensures (λ more. notifies_further _ _ _ first more)
