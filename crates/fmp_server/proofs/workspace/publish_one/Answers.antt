use Rattle.fmp_server.proofs.Notices.{notifies_none, notifies_one}
use Rattle.fmp_server.proofs.workspace.publish_one.Goals as goal

pub returns-in_ok-push-in-Some : goal.returns-in_ok-push-in-Some
returns-in_ok-push-in-Some c =
    notifies_one (λ b. b.items) _ _ _ c.in_ok-push-in-Some.ensures.items c.in_ok-published-in-Some.ensures

pub returns-in-None : goal.returns-in-None
returns-in-None c = notifies_none _
