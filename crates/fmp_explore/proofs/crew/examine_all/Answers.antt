use Rattle.std.proofs.Common.{◌≡◌, ◌∙◌, IfOk, Result, length, rules, subst, sym, vec_len}
use Rattle.std.specs.declared.alloc.AllocError.{AllocError}
use Rattle.fmp_explore.specs.Slices.{IsTaken}
use Rattle.fmp_explore.specs.declared.slices.Slice.{Slice}
use Rattle.fmp_explore.proofs.SliceLemmas.{slices_made}
use Rattle.fmp_explore.proofs.crew.examine_all.Goals as goal
use Rattle.fmp_witness.specs.Asked.{asked_of}

pub returns : goal.returns
returns g c = λ whole h.
    let asked = asked_of c.args.subject.now in
    let made = c.in_ok-made in
    let count : vec_len made.made ≡ length made.made.items = search rules in
    let before : vec_len c.args.taken ≡ length c.args.taken.items = search rules in
    slices_made asked whole c.args.taken.items made.made.items (sym count ∙ made.ensures.len ∙ before)
    (λ i d e within taken.
    let gives = (made.ensures.each i e within).1 in
    gives.call.met whole (subst (λ (s : Result Slice AllocError). IfOk s (IsTaken asked whole)) (gives.job_is d) taken))
    h
