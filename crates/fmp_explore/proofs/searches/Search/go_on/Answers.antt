use Rattle.std.proofs.Common.{◌+◌}
use Rattle.fmp_explore.proofs.SearchLemmas.{fewer_examined, one_examined}
use Rattle.fmp_explore.proofs.SliceLemmas.{slices_stay}
use Rattle.fmp_explore.proofs.searches.Search.go_on.Goals as goal
use Rattle.fmp_witness.specs.Asked.{asked_of}

pub examine-requires-clause-search : goal.examine-requires-clause-search
examine-requires-clause-search g c = c.requires.searching.begun.search

pub returns-clause-searching : goal.returns-clause-searching
returns-clause-searching g c =
    let asked = asked_of c.args.subject.now in
    let next = c.args.progress.now.next in
    fewer_examined asked (next + 1) c.place_after-progress.result c.examine.new.self
    c.place_after-progress.ensures
    (one_examined asked next c.args.self.now c.examine.new.self c.requires.searching
    c.requires.there c.in_ok-examine.ensures.examined)

pub returns-clause-pending : goal.returns-clause-pending
returns-clause-pending g c =
    slices_stay (asked_of c.args.subject.now) c.args.self.now c.examine.new.self
    c.in_ok-examine.ensures.examined.grows c.args.progress.now.pending.items c.requires.pending
