use Rattle.fmp_engine.proofs.SimulationLemmas.{all_appended}
use Rattle.fmp_engine.proofs.play.play.Goals as goal

pub returns-in-Ok-clause-ok : goal.returns-in-Ok-clause-ok
returns-in-Ok-clause-ok g c =
    let given = c.in-Ok.ensures.ok in
    all_appended c.args.out.now.items c.play_into.new.outlet.items given.front _ given.is_given given.whole_is
