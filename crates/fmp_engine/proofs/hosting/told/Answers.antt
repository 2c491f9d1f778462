use Rattle.fmp_replay.proofs.Entries.{entered}
use Rattle.fmp_engine.proofs.hosting.told.Goals as goal

pub play-requires-clause-entries : goal.play-requires-clause-entries
play-requires-clause-entries c =
    rw c.vm.ensures (rw c.system.ensures.tables (entered c.args.image.now c.keeps_rules.ensures))
