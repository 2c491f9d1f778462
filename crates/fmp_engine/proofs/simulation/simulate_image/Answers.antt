use Rattle.fmp_replay.proofs.Entries.{entered}
use Rattle.fmp_engine.proofs.StepLemmas.{few_events}
use Rattle.fmp_engine.proofs.simulation.simulate_image.Goals as goal

pub play_into-requires-clause-entries : goal.play_into-requires-clause-entries
play_into-requires-clause-entries g c =
    rw c.vm.ensures (rw c.system-system.ensures.tables (entered c.args.image.now c.keeps_rules.ensures))

pub play_into-requires-clause-few : goal.play_into-requires-clause-few
play_into-requires-clause-few g c =
    few_events c.system-system.result.now.processors c.args.steps.now _ c.in-Ok.ensures.events
