use Rattle.fmp_explore.proofs.SliceLemmas.{slice_grows}
use Rattle.fmp_explore.proofs.searches.Search.hand_over.Goals as goal
use Rattle.fmp_witness.specs.Asked.{asked_of}

pub returns : goal.returns
returns c =
    record {
      same =
          slice_grows (asked_of c.args.subject.now) c.args.self.now c.in_ok-search.search c.take_rows.new.self
          c.in_ok-take_rows.ensures.grows c.in_ok-search.ensures;
      within = c.within-span.ensures;
      each = c.in_ok-take_rows.ensures.each;
    }
