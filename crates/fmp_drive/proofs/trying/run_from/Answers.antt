use Rattle.fmp_drive.proofs.DriveLemmas.{processor_steps}
use Rattle.fmp_drive.proofs.trying.run_from.Goals as goal

pub returns-clause-step : goal.returns-clause-step
returns-clause-step g c =
    processor_steps g.B.Body.meaning c.first_taken.result c.args.kernel.now c.first_taken.new.kernel c.args.processors
    c.args.first
    c.requires.first c.first_taken.ensures
