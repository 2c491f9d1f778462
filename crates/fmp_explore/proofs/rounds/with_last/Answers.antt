use Rattle.std.proofs.Common.{List, Result, subst, sym}
use Rattle.std.proofs.lemmas.Result.{IfOk-at_ok}
use Rattle.std.specs.declared.alloc.AllocError.{AllocError}
use Rattle.fmp_explore.specs.Slices.{AreSlices}
use Rattle.fmp_explore.specs.declared.slices.Slice.{Slice}
use Rattle.fmp_explore.proofs.SliceLemmas.{slice_added}
use Rattle.fmp_explore.proofs.rounds.with_last.Goals as goal

pub returns : goal.returns
returns c = λ asked whole made one.
    subst (λ (slices : List (Result Slice AllocError)). AreSlices asked whole slices)
    (sym c.in_ok-push.ensures.items)
    (slice_added asked whole c.in_ok-slices.slices.items c.args.last
    (IfOk-at_ok (λ v. AreSlices asked whole v.items) c.in_ok-slices.was made) one)
