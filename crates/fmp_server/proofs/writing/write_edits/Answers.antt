use Rattle.std.proofs.Common.{[], ◌∷◌, ◌++◌, ◌∙◌}
use Rattle.fmp_server.proofs.Ranges.{next_edit, next_range}
use Rattle.fmp_server.proofs.writing.write_edits.Goals as goal

pub loop-one-preserved : goal.loop-one-preserved
loop-one-preserved c =
    let i = c.loop-one.invariant.tokens in
    let e = c.in_ok-write_edit.ensures in
    let r = c.range_of.result in
    record {
      before = e.before ∙ c.loop-one.invariant.before;
      tokens = (
        i.0 ++ r ∷ [],
        next_range _ _ _ _ _ _ c.loop-one-test.true i.1 c.range_of.ensures,
        next_edit _ _ _ _ _ _ i.2 e.tokens,
      );
    }
