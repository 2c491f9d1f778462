use Rattle.std.proofs.Common.{refl}
use Rattle.fmp_instructions.proofs.Conjunctions.{and-left, and-right}
use Rattle.fmp_explore.proofs.SearchStepLemmas.{stays_grows}
use Rattle.fmp_explore.proofs.SliceLemmas.{among_at}
use Rattle.fmp_explore.proofs.searches.Search.enter_own.Goals as goal

pub returns-clause-grows : goal.returns-clause-grows
returns-clause-grows c =
    stays_grows c.args.self.now _
    (record {
      same = record { tries = refl; fields = refl; first = refl; outs = refl; live = refl };
      seen = refl;
      sure = λ e. and-left c.args.self.now.sure c.has_at-has.result e;
    })

pub returns-clause-kept : goal.returns-clause-kept
returns-clause-kept c = λ sure row there.
    among_at c.args.self.now c.args.slice.now.search c.args.place c.args.k c.row.result.now row c.row.ensures
    (c.has_at-has.ensures (and-right c.args.self.now.sure c.has_at-has.result sure)) there
