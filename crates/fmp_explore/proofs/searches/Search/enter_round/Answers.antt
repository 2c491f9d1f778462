use Rattle.std.proofs.Common.{ℕ, subst, sym}
use Rattle.fmp_explore.specs.Slices.{IsInRound}
use Rattle.fmp_explore.proofs.searches.Search.enter_round.Goals as goal
use Rattle.fmp_witness.specs.Asked.{asked_of}

pub returns : goal.returns
returns g c = λ whole pending round.
    let asked = asked_of c.args.subject.now in
    c.enter_all.ensures whole (rw c.deref.ensures.value (rw c.take_pending-pending.ensures.pending pending))
    (subst (λ (k : ℕ). IsInRound asked whole k c.args.self.now) (sym c.take_pending-pending.ensures.next) round)
