use Rattle.std.proofs.Common.{refl}
use Rattle.fmp_warnings.proofs.found.FoundWarnings.warn.Goals as goal

pub returns-clause-adds : goal.returns-clause-adds
returns-clause-adds c =
    let said = rw c.position_at-position.ensures at (rw c.of.ensures at c.in_ok-finding.ensures) in (
      record { file = c.args.file; finding = c.in_ok-finding.finding },
      record { of_file = refl; finding = said },
      refl,
      c.in_ok-push.ensures.items,
    )
