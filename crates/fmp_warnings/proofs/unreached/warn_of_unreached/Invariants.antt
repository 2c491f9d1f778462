use Rattle.std.proofs.Common.{take}
use Rattle.fmp_lex.specs.declared.fault.TextFile.TheVariants as file
use Rattle.fmp_diagnosis.specs.Reports.{text_of}
use Rattle.fmp_warnings.specs.Unreached.{WarnsOfUnreached}
use Rattle.fmp_warnings.specs.Warned.{Adds}
use Rattle.fmp_warnings.proofs.unreached.warn_of_unreached.Given as goal

abbrev pub invariant-loop-mark : goal.invariant-loop-mark
invariant-loop-mark l =
    Adds (WarnsOfUnreached (text_of l.fn.found.texts file.Source) l.src) (take l.mark-index l.landmarks.structure.items)
    l.fn.found l.found
