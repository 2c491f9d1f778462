use Rattle.fmp_engine.proofs.SimulationLemmas.{none_appended, simulates_appended}
use Rattle.fmp_engine.proofs.simulation.append_simulated.Goals as goal

pub returns-in-Ok-clause-ok : goal.returns-in-Ok-clause-ok
returns-in-Ok-clause-ok c =
    let s = c.in-Ok.ensures.ok in
    simulates_appended c.args.image.now c.args.steps.now c.args.n c.args.out.now.items c.simulate.new.outlet.items
    s.given.front s.text
    s.simulated s.given.whole_is s.given.is_given

pub returns-in-Err-Refused-clause-refused : goal.returns-in-Err-Refused-clause-refused
returns-in-Err-Refused-clause-refused c =
    let why = rw c.in-Err-Refused.field-0-is at c.in-Err-Refused.ensures.err in
    why.0

pub returns-in-Err-Refused-clause-err : goal.returns-in-Err-Refused-clause-err
returns-in-Err-Refused-clause-err c =
    let why = rw c.in-Err-Refused.field-0-is at c.in-Err-Refused.ensures.err in
    none_appended c.args.out.now.items c.simulate.new.outlet.items why.1
