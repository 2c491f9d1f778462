use Rattle.std.proofs.Common.{refl}
use Rattle.fmp_explore.proofs.MarkLemmas.{interrupted_free}
use Rattle.fmp_explore.proofs.searches.Search.look.Goals as goal
use Rattle.fmp_witness.specs.Asked.{asked_of}

pub returns-then-marks : goal.returns-then-marks
returns-then-marks c =
    let asked = asked_of c.args.here.subject.now in
    record {
      stays =
          record {
            same = record { tries = refl; fields = refl; first = refl; outs = refl; live = refl };
            seen = refl;
            sure = λ e. e;
          };
      free = λ _ d.
          interrupted_free asked c.args.kernel.now.world _ c.args.marks c.requires.marks
          c.if-marks.true d;
    }
