use Rattle.std.proofs.Common.{IfOk, List, Result, arith, subst, sym}
use Rattle.std.specs.declared.alloc.AllocError.{AllocError}
use Rattle.std.proofs.lemmas.List.Elements.{All-nil}
use Rattle.fmp_explore.specs.Slices.{AreSlices, IsSlice}
use Rattle.fmp_explore.specs.declared.slices.Slice.{Slice}
use Rattle.fmp_explore.proofs.SearchStepLemmas.{same_grows}
use Rattle.fmp_explore.proofs.searches.Search.enter_pending.Goals as goal
use Rattle.fmp_witness.specs.Asked.{asked_of}

pub returns-clause-searching : goal.returns-clause-searching
returns-clause-searching g c =
    let a = c.args.self.now in
    let round =
    c.in_ok-enter_round.ensures a c.requires.pending
    (record {
      grows = same_grows a;
      within = omega (arith, c.requires.there);
      searching = c.requires.searching;
    }) in
    rw c.put_pending.ensures.next round.searching

pub returns-clause-pending : goal.returns-clause-pending
returns-clause-pending g c =
    let asked = asked_of c.args.subject.now in
    let b = c.enter_round.new.self in
    c.put_pending.ensures.pending asked b
    (subst (λ (slices : List (Result Slice AllocError)). AreSlices asked b slices) (sym c.new.ensures.items)
    (All-nil (λ s. IfOk s (IsSlice asked b))))
