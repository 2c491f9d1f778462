use Rattle.std.proofs.Common.{refl}
use Rattle.fmp_explore.proofs.MarkLemmas.{running_free}
use Rattle.fmp_explore.proofs.searches.Search.look_if_idle.Goals as goal
use Rattle.fmp_witness.specs.Asked.{asked_of}

pub returns-else-marks : goal.returns-else-marks
returns-else-marks c =
    let asked = asked_of c.args.here.subject.now in
    record {
      stays =
          record {
            same = record { tries = refl; fields = refl; first = refl; outs = refl; live = refl };
            seen = refl;
            sure = λ e. e;
          };
      free = λ _ d.
          running_free asked c.args.kernel.now.world _ c.args.marks c.requires.marks
          c.if-marks.false d;
    }
