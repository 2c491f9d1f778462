use Rattle.std.proofs.lemmas.Result.{on_ok_weaker}
use Rattle.fmp_looking.proofs.WrittenLemmas.{does_then}
use Rattle.fmp_looking.proofs.coverage_files.write_coverage_files.Goals as goal

pub returns : goal.returns
returns g c =
    on_ok_weaker c.write_named-2.result (λ h. does_then _ _ _ _ _ c.in_ok-write_named.ensures h)
    c.write_named-2.ensures
