use Rattle.std.proofs.Common.{IfOk, IsTrue, List, subst}
use Rattle.fmp_base.specs.declared.events.Event.{Event}
use Rattle.fmp_witness.specs.Asked.{asked_of}
use Rattle.fmp_witness.specs.Findings.{IsSo}
use Rattle.fmp_explore.proofs.finding.is_found.Goals as goal

pub returns : goal.returns
returns c =
    subst
    (λ (es : List Event). IfOk c.is_shown.result
    (λ found. IsTrue found → IsSo (asked_of c.args.subject.now) es c.args.finding.now.kind))
    c.deref.ensures.value c.is_shown.ensures
