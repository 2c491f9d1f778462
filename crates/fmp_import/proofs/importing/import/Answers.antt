use Rattle.std.proofs.Common.{subst, List, ℕ}
use Rattle.fmp_import.specs.Imports.{IsConfiguration}
use Rattle.fmp_import.proofs.importing.import.Goals as goal

pub returns-clause-imported : goal.returns-clause-imported
returns-clause-imported c =
    let P : List ℕ → Type 0 = λ text. IsConfiguration text in
    ((_, _, c.in_ok-configuration.ensures), subst P c.deref-3.ensures.value c.in_ok-is_read.ensures.read)
