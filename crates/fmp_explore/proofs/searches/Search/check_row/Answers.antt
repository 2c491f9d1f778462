use Rattle.std.proofs.Common.{refl}
use Rattle.fmp_explore.proofs.SearchStepLemmas.{stays_grows}
use Rattle.fmp_explore.proofs.searches.Search.check_row.Goals as goal

pub returns-then-has_at-clause-there : goal.returns-then-has_at-clause-there
returns-then-has_at-clause-there c = λ _. c.has_at.ensures c.if-has_at.true

pub returns-clause-grows : goal.returns-clause-grows
returns-clause-grows c =
    stays_grows c.args.self.now _
    (record {
      same = record { tries = refl; fields = refl; first = refl; outs = refl; live = refl };
      seen = refl;
      sure = λ e. absurd (cc (e));
    })
