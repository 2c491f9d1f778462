use Rattle.fmp_explore.proofs.SearchLemmas.{nothing_found}
use Rattle.fmp_explore.proofs.exploring.explore_written.Goals as goal
use Rattle.fmp_witness.specs.Asked.{asked_of}

pub make_report-requires : goal.make_report-requires
make_report-requires g c =
    record {
      holds = λ whole sure none.
          let asked = asked_of c.args.subject.now in
          nothing_found asked c.run_search-ending.new.search
          (c.run_search-ending.ensures whole) none sure;
    }
