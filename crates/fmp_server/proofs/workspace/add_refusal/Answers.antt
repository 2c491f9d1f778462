use Rattle.fmp_server.proofs.Notices.{pushed}
use Rattle.fmp_server.proofs.workspace.add_refusal.Goals as goal

pub returns : goal.returns
returns c = rw (← c.in_ok-refused.ensures) (pushed (λ b. b.items) _ _ _ c.in_ok-push.ensures.items)
