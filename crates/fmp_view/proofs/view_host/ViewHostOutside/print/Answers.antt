use Rattle.fmp_view.proofs.HostDeeds.{unknown_begins}
use Rattle.fmp_files.specs.Deeds.{printed}
use Rattle.fmp_view.proofs.view_host.ViewHostOutside.print.Goals as goal

pub returns-clause-err : goal.returns-clause-err
returns-clause-err g c = unknown_begins c.write_out-written.result printed c.args.bytes.now
