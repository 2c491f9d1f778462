use Rattle.fmp_explore.proofs.StuckLemmas.{none_follows}
use Rattle.fmp_explore.proofs.stuck.shows_silence.Goals as goal
use Rattle.fmp_witness.specs.Asked.{asked_of}

pub returns-in-Complete : goal.returns-in-Complete
returns-in-Complete g c = λ yes.
    let asked = asked_of c.args.subject.now in
    none_follows asked c.run_search.new.search
    (c.run_search.ensures c.in-Complete.is)
    yes
