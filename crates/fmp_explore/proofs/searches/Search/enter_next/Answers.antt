use Rattle.std.proofs.lemmas.Result.{IfOk-weaker}
use Rattle.fmp_explore.proofs.SliceLemmas.{among_read}
use Rattle.fmp_explore.proofs.searches.Search.enter_next.Goals as goal

pub returns-clause-grows : goal.returns-clause-grows
returns-clause-grows c = IfOk-weaker c.keep_row.result _ _ (λ _ h. h.grows) c.keep_row.ensures

pub returns-clause-kept : goal.returns-clause-kept
returns-clause-kept c =
    IfOk-weaker c.keep_row.result _ _
    (λ _ h sure row there.
    among_read c.keep_row.new.self c.args.slice.now.search c.args.k c.row.result.now row c.row.ensures (h.kept sure)
    there)
    c.keep_row.ensures
