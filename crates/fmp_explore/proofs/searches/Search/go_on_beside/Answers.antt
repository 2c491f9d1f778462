use Rattle.std.proofs.Common.{arith}
use Rattle.fmp_explore.proofs.SearchStepLemmas.{same_grows}
use Rattle.fmp_explore.proofs.SliceLemmas.{slice_ready, slices_stay, taken_ready}
use Rattle.fmp_explore.proofs.searches.Search.go_on_beside.Goals as goal
use Rattle.fmp_witness.specs.Asked.{asked_of}

pub hand_over-requires-clause-whole : goal.hand_over-requires-clause-whole
hand_over-requires-clause-whole g c = c.requires.searching.begun.search

pub enter_beside-requires-clause-taken : goal.enter_beside-requires-clause-taken
enter_beside-requires-clause-taken g c =
    let asked = asked_of c.args.subject.now in
    let a = c.args.self.now in
    taken_ready asked a c.take_last-last.new.taken.items (c.take_last-last.ensures.taken asked a c.in_ok-taken.ensures)

pub enter_beside-requires-clause-last : goal.enter_beside-requires-clause-last
enter_beside-requires-clause-last g c =
    let asked = asked_of c.args.subject.now in
    let a = c.args.self.now in
    slice_ready asked a c.take_last-last.result (c.take_last-last.ensures.last asked a c.in_ok-taken.ensures)

pub returns-clause-searching : goal.returns-clause-searching
returns-clause-searching g c =
    let a = c.args.self.now in
    let round =
    c.in_ok-slices.ensures.entered a c.requires.pending
    (record {
      grows = same_grows a;
      within = omega (arith, c.requires.there);
      searching = c.requires.searching;
    }) in
    rw c.put_pending.ensures.next round.searching

pub returns-clause-pending : goal.returns-clause-pending
returns-clause-pending g c =
    let asked = asked_of c.args.subject.now in
    let a = c.args.self.now in
    let b = c.enter_beside.new.self in
    let round =
    c.in_ok-slices.ensures.entered a c.requires.pending
    (record {
      grows = same_grows a;
      within = omega (arith, c.requires.there);
      searching = c.requires.searching;
    }) in
    c.put_pending.ensures.pending asked b
    (slices_stay asked a b round.grows c.in_ok-slices.slices.items
    (c.in_ok-slices.ensures.slices a (c.take_last-last.ensures.taken asked a c.in_ok-taken.ensures)
    (c.take_last-last.ensures.last asked a c.in_ok-taken.ensures)))
