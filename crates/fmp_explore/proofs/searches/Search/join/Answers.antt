use Rattle.std.proofs.Common.{◌&&◌, refl}
use Rattle.fmp_instructions.proofs.Conjunctions.{and-left, and-right}
use Rattle.fmp_explore.proofs.searches.Search.join.Goals as goal

pub returns-clause-stays : goal.returns-clause-stays
returns-clause-stays c =
    let a = c.args.self.now.sure in
    let b = c.args.theirs.now.sure in
    record {
      same = record { tries = refl; fields = refl; first = refl; outs = refl; live = refl };
      seen = refl;
      sure = λ e. and-left a b (and-left (a && b) c.args.all e);
    }

pub returns-clause-sure : goal.returns-clause-sure
returns-clause-sure c = λ e.
    let a = c.args.self.now.sure in
    let b = c.args.theirs.now.sure in
    and-right a b (and-left (a && b) c.args.all e)

pub returns-clause-all : goal.returns-clause-all
returns-clause-all c = λ e.
    let a = c.args.self.now.sure in
    let b = c.args.theirs.now.sure in
    and-right (a && b) c.args.all e
