use Rattle.std.proofs.Common.{ap, arith}
use Rattle.fmp_tasklang.specs.Views.{expression_view}
use Rattle.fmp_scopes.specs.Depths.{arguments_depth}
use Rattle.fmp_scopes.specs.Sizes.{arguments_size}
use Rattle.fmp_scopes.proofs.LeastDepths.{one-le-expression_depth}
use Rattle.fmp_scopes.proofs.Loops.{map-step}
use Rattle.fmp_scopes.proofs.extents.arguments_extent.Goals as goal

pub loop-i-preserved : goal.loop-i-preserved
loop-i-preserved c =
    let e = c.index-arguments-i.result in
    let step = map-step expression_view c.args.arguments.now c.loop-i.i e c.loop-i-test.true c.index-arguments-i.is in
    let size = ap arguments_size step in
    let depth = ap arguments_depth step in
    let some = one-le-expression_depth (expression_view e) in
    let one = c.expression_extent-one.ensures in
    let all = c.cut_extent-all.ensures in
    let was = c.loop-i.invariant in
    record {
      size = omega (arith, size, one.size, all.size, was.size, was.small);
      small = omega (arith, all.size);
      depth = omega (
        arith,
        depth,
        some,
        one.depth,
        all.depth,
        c.greater.ensures,
        c.cut.ensures,
        was.depth,
        was.low,
        was.above,
      );
      low = omega (arith, all.depth);
      above = omega (arith, some, one.depth, all.depth, c.greater.ensures, c.cut.ensures, was.above);
    }
