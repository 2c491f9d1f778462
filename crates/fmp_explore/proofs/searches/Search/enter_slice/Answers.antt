use Rattle.std.proofs.Common.{◌≡◌, arith}
use Rattle.fmp_explore.proofs.SliceLemmas.{slice_entered}
use Rattle.fmp_explore.proofs.searches.Search.enter_slice.Goals as goal
use Rattle.fmp_witness.specs.Asked.{asked_of}

pub returns : goal.returns
returns g c = λ whole slice round.
    let asked = asked_of c.args.subject.now in
    let next : c.args.slice.now.span.first ≡ c.args.progress.now.next = omega (arith, c.if-slice-progress.false) in
    slice_entered asked whole c.args.slice.now slice c.args.self.now c.enter.new.self
    c.args.progress.now.next next c.in_ok-progress.ensures round
