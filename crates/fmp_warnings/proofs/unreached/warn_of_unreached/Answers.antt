use Rattle.std.proofs.Common.{get_or, subst}
use Rattle.fmp_diagnosis.specs.Reports.{text_of}
use Rattle.fmp_diagnosis.specs.Tokens.{kind_at}
use Rattle.fmp_diagnosis.specs.declared.sentence.Texts.{Texts}
use Rattle.fmp_lex.specs.declared.fault.TextFile.TheVariants as file
use Rattle.fmp_warnings.specs.declared.landmarks.Mark.{Mark}
use Rattle.fmp_warnings.specs.Unreached.{WarnsOfUnreached, sentence, written}
use Rattle.fmp_warnings.specs.Warned.{AddsOne, IsSaidAt}
use Rattle.fmp_warnings.proofs.Warned.{adds_nothing, adds_passed, adds_warned}
use Rattle.fmp_warnings.proofs.unreached.warn_of_unreached.Goals as goal
use Rattle.fmp_warnings.proofs.unreached.warn_of_unreached.Goals.{in-Some+in_ok-warn_unreached, in_default}

pub loop-mark-init : goal.loop-mark-init
loop-mark-init c =
    adds_nothing (WarnsOfUnreached (text_of c.args.found.now.texts file.Source) c.args.src.now) c.args.found.now

pub loop-mark-preserved : goal.loop-mark-preserved
loop-mark-preserved c =
    let src = c.args.src.now in
    let old = c.args.found.now in
    let mid = c.loop-mark.found in
    let rule = WarnsOfUnreached (text_of old.texts file.Source) src in
    let seen = c.deref-mark-items.result.now in
    let places = c.args.landmarks.now.structure.items in
    let n = c.loop-mark.mark-index in
    let d : Mark = record { at = 0; body = 0 } in
    let said = λ (t : Texts). IsSaidAt file.Source (text_of t file.Source) src in
    elim c.match-unreached_at.branch [
      | in-Some+in_ok-warn_unreached w ↦
          let place = w.in-Some.place in
          let text = sentence (written (kind_at src (get_or seen n d).at)) in
          let new = w.warn_unreached.new.found in
          let one : AddsOne (said old.texts place text) mid new =
          subst (λ (t : Texts). AddsOne (said t place text) mid new) c.loop-mark.invariant.2
          w.in_ok-warn_unreached.ensures in
          rw w.found-is
          (adds_warned rule (said old.texts place text) seen places n d old mid new c.deref-mark-items.ensures.value
          c.loop-mark-test.true c.loop-mark.invariant one (λ x s. (place, w.in-Some.ensures, s)))
      | in_default w ↦
          rw w.found-is
          (adds_passed rule seen places n d old mid c.deref-mark-items.ensures.value c.loop-mark-test.true
          c.loop-mark.invariant (λ x r. w.in_default.ensures r.0 r.1))
    ]
