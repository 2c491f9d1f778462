use Rattle.fmp_server.proofs.Joining.{then_ok}
use Rattle.fmp_server.proofs.workspace.refuse_text.Goals as goal

pub returns-in_default-clause-memory : goal.returns-in_default-clause-memory
returns-in_default-clause-memory c =
    then_ok c.add_refusal.result c.add_refusal.ensures (λ said. c.in_default.not-OutOfMemory)
