use Rattle.std.proofs.lemmas.Result.{IfOk-weaker}
use Rattle.fmp_explore.proofs.NextLemmas.{dealt_after}
use Rattle.fmp_explore.proofs.SearchStepLemmas.{stays_search}
use Rattle.fmp_explore.proofs.searches.Search.attempt.Goals as goal
use Rattle.fmp_witness.specs.Asked.{asked_of}

pub attempt_ahead-requires-clause-search : goal.attempt_ahead-requires-clause-search
attempt_ahead-requires-clause-search c =
    let asked = asked_of c.args.attempt.here.subject.now in
    stays_search asked c.args.self.now c.note_ahead.new.self c.in_ok-ahead.ensures
    c.requires.search

pub returns-clause-dealt : goal.returns-clause-dealt
returns-clause-dealt c =
    let asked = asked_of c.args.attempt.here.subject.now in
    IfOk-weaker c.attempt_ahead.result _ _
    (λ _ dealt. dealt_after asked c.args.self.now c.note_ahead.new.self
    c.attempt_ahead.new.self c.args.kernel.now.world _ c.args.attempt.event c.in_ok-ahead.ensures dealt)
    c.attempt_ahead.ensures.dealt
