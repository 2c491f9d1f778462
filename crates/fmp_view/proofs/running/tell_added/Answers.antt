use Rattle.std.proofs.Common.{inl}
use Rattle.fmp_files.specs.PrintsLaws.{prints_one}
use Rattle.fmp_view.proofs.running.tell_added.Goals as goal

pub returns-in-Ok-clause-tells : goal.returns-in-Ok-clause-tells
returns-in-Ok-clause-tells g c = inl (prints_one _ _ _ (rw c.as_bytes.ensures.value at c.in-Ok.ensures.ok))
