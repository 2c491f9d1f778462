use Rattle.std.proofs.Common.{◌≡◌, take}
use Rattle.fmp_warnings.specs.Verdicts.{warnings_text}
use Rattle.fmp_warnings.proofs.verdicts.printed_warnings.Given as goal

abbrev pub invariant-loop-warning : goal.invariant-loop-warning
invariant-loop-warning l = l.out.items ≡ warnings_text l.style.form l.style.names (take l.warning-index l.warnings)
