use Rattle.std.proofs.Common.{subst}
use Rattle.fmp_diagnosis.specs.Reports.{text_of}
use Rattle.fmp_diagnosis.specs.declared.sentence.Texts.{Texts}
use Rattle.fmp_lex.specs.declared.fault.TextFile.TheVariants as file
use Rattle.fmp_warnings.specs.Unreached.{WarnsOfUnreached}
use Rattle.fmp_warnings.specs.Warned.{ArePicked}
use Rattle.fmp_warnings.proofs.Warned.{all_picked}
use Rattle.fmp_warnings.proofs.warnings.of_unreached.Goals as goal

pub returns : goal.returns
returns c =
    let src = c.args.src.now in
    let places = c.args.landmarks.now.structure.items in
    let old = c.new-found.result in
    let new = c.warn_of_unreached.new.found in
    subst
    (λ (t : Texts). ArePicked (WarnsOfUnreached (text_of t file.Source) src) places new.list.items)
    c.new-found.ensures.texts
    (all_picked (WarnsOfUnreached (text_of old.texts file.Source) src) places old new c.in_ok-warn_of_unreached.ensures
    c.new-found.ensures.list)
