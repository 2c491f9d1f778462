use Rattle.std.proofs.Common.{◌∙◌, ◌<◌, [], arith, length, sym}
use Rattle.fmp_explore.proofs.SearchStepLemmas.{found_there}
use Rattle.fmp_explore.proofs.searches.Search.has_at.Goals as goal

pub returns : goal.returns
returns c = λ yes.
    let a = c.args.self.now in
    let low : c.args.place < length a.seen.rows = omega (arith, c.if-place-len.false, c.len.ensures.rows) in
    found_there a.seen.rows c.args.place [] c.args.row.now low (sym c.row.ensures ∙ c.is_same.ensures yes)
