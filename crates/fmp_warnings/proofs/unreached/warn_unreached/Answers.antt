use Rattle.std.proofs.Common.{◌∙◌, ◌++◌, ℕ, List, OnOk, ap, subst}
use Rattle.fmp_diagnosis.specs.Reports.{text_of}
use Rattle.fmp_lex.specs.declared.fault.TextFile.TheVariants as file
use Rattle.fmp_warnings.specs.Unreached.{sentence}
use Rattle.fmp_warnings.specs.Warned.{AddsOne, IsSaidAt}
use Rattle.fmp_warnings.proofs.unreached.warn_unreached.Goals as goal

pub returns : goal.returns
returns c =
    let old = c.args.found.now in
    let said =
    c.in_ok-say_unreached.ensures
    ∙ ap (λ (front : List ℕ). front ++ sentence c.word_at.result.now) c.new-sentence.ensures.items
    ∙ ap sentence c.word_at.ensures in
    subst
    (λ (s : List ℕ).
    OnOk c.warn.result (AddsOne (IsSaidAt file.Source (text_of old.texts file.Source) c.args.src.now c.args.place s) old
    c.warn.new.self))
    said c.warn.ensures.adds
