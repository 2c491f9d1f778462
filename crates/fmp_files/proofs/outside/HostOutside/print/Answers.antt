use Rattle.fmp_files.proofs.HostDeeds.{unknown_begins}
use Rattle.fmp_files.specs.Deeds.{printed}
use Rattle.fmp_files.proofs.outside.HostOutside.print.Goals as goal

pub returns-clause-err : goal.returns-clause-err
returns-clause-err g c = unknown_begins c.write_out.result printed c.args.bytes.now
