use Rattle.std.proofs.Common.{◌∙◌}
use Rattle.fmp_explore.proofs.SliceLemmas.{slice_of}
use Rattle.fmp_explore.proofs.searches.Search.again.Goals as goal
use Rattle.fmp_witness.specs.Asked.{asked_of}

pub returns : goal.returns
returns c =
    let asked = asked_of c.args.subject.now in
    slice_of asked c.args.self.now _ c.requires
    (c.in_ok-tries.ensures.items ∙ c.deref.ensures.value) c.in_ok-rows.ensures.fields
    c.in_ok-rows.ensures.first c.in_ok-rows.ensures.outs c.in_ok-rows.ensures.live
