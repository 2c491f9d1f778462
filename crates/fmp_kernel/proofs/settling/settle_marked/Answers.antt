use Rattle.std.proofs.Common.{refl}
use Rattle.fmp_tasks.specs.Tables.{progress}
use Rattle.fmp_kernel.proofs.SettleLemmas.{settled_rest}
use Rattle.fmp_kernel.proofs.settling.settle_marked.Goals as goal

pub returns-else-is_marked-clause-progress : goal.returns-else-is_marked-clause-progress
returns-else-is_marked-clause-progress c =
    settled_rest c.args.tables.now.system (progress c.args.tables.now c.args.lines.now.items) c.args.p
    (c.if-is_marked.ensures.none refl) (c.if-is_marked.ensures.same refl)
