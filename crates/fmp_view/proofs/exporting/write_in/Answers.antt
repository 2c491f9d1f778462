use Rattle.std.proofs.Common.{◌∙◌, inl}
use Rattle.fmp_files.specs.PrintsLaws.{does_nothing}
use Rattle.fmp_searching.proofs.Doing.{on_err}
use Rattle.fmp_view.proofs.exporting.write_in.Goals as goal

pub returns-clause-ok : goal.returns-clause-ok
returns-clause-ok g c = rw (c.as_str.ensures.value ∙ c.in_ok-name.ensures) at c.write_file.ensures.ok

pub returns-clause-begun : goal.returns-clause-begun
returns-clause-begun g c = rw (c.as_str.ensures.value ∙ c.in_ok-name.ensures) at c.write_file.ensures.begun

pub returns-in_err-name-clause-begun : goal.returns-in_err-name-clause-begun
returns-in_err-name-clause-begun g c = on_err _ (inl (does_nothing _))
