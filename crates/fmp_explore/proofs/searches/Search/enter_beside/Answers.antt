use Rattle.std.proofs.Common.{IfOk}
use Rattle.std.proofs.lemmas.Result.{IfOk-at_ok}
use Rattle.fmp_explore.specs.Slices.{IsSlice}
use Rattle.fmp_explore.proofs.searches.Search.enter_beside.Goals as goal
use Rattle.fmp_witness.specs.Asked.{asked_of}

pub returns-clause-slices : goal.returns-clause-slices
returns-clause-slices g c = λ whole taken last.
    let asked = asked_of c.args.subject.now in
    let both = c.enter_with_crew-slices.ensures in
    c.with_last.ensures asked whole (both.slices whole taken)
    (IfOk-at_ok (λ made. IfOk made (IsSlice asked whole)) c.in_ok-made.was (both.own whole last))
