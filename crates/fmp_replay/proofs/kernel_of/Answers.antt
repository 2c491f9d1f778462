use Rattle.fmp_replay.proofs.Entries.{entered}
use Rattle.fmp_replay.proofs.Replaying.{begun}
use Rattle.fmp_replay.proofs.kernel_of.Goals as goal

pub new-requires-clause-entries : goal.new-requires-clause-entries
new-requires-clause-entries c = rw c.vm.ensures (rw c.system.ensures.tables
    (entered c.args.image.now c.keeps_rules.ensures))

pub returns-in-Ok : goal.returns-in-Ok
returns-in-Ok c = begun c.args.image.now c.args.n _ _ _ c.vm.ensures c.system.ensures.tables c.in-Ok.ensures

pub new-requires-clause-range : goal.new-requires-clause-range
new-requires-clause-range c = c.system.ensures.ranges
