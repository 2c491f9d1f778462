use Rattle.std.proofs.Common.{rules}
use Rattle.fmp_files.specs.Endings.{shown}
use Rattle.fmp_files.proofs.ending.refuse.Goals as goal

pub returns-in-Ok : goal.returns-in-Ok
returns-in-Ok g c = shown c.as_bytes.result.now (search rules) c.print.ensures
