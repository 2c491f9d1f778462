use Rattle.std.proofs.Common.{List, refl, subst, ℕ}
use Rattle.std.proofs.lemmas.Result.{IfOk-weaker}
use Rattle.fmp_explore.specs.Searching.{HasTold}
use Rattle.fmp_explore.proofs.searches.Search.examined.Goals as goal

pub returns-clause-row : goal.returns-clause-row
returns-clause-row c =
    IfOk-weaker c.examined.result _ _
    (λ _ has. subst (λ (row : List ℕ). HasTold c.examined.new.self row) c.row.ensures has) c.examined.ensures.row

pub returns-clause-stays : goal.returns-clause-stays
returns-clause-stays c =
    record {
      same =
          record {
            tries = refl;
            fields = c.examined.ensures.fields;
            first = c.examined.ensures.first;
            outs = c.examined.ensures.outs;
            live = c.examined.ensures.live;
          };
      seen = refl;
      sure = λ e. e;
    }
