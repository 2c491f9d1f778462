use Rattle.std.proofs.Common.{refl}
use Rattle.fmp_explore.proofs.SearchLemmas.{state_lost}
use Rattle.fmp_explore.proofs.searches.Search.examine_there.Goals as goal
use Rattle.fmp_witness.specs.Asked.{asked_of}

pub returns-then-k-len-clause-examined : goal.returns-then-k-len-clause-examined
returns-then-k-len-clause-examined c =
    state_lost (asked_of c.args.subject.now) c.args.self.now _ c.args.k c.requires.search
    (record {
      same = record { tries = refl; fields = refl; first = refl; outs = refl; live = refl };
      seen = refl;
      sure = λ e. absurd (cc (e));
    })
    refl
