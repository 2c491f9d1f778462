use Rattle.std.proofs.Common.{◌≡◌, ◌+◌, ◌≤◌, min, max, drop, map}
use Rattle.fmp_tasklang.specs.Views.{expression_view}
use Rattle.fmp_scopes.specs.Depths.{arguments_depth}
use Rattle.fmp_scopes.specs.Sizes.{arguments_size}
use Rattle.fmp_scopes.proofs.extents.arguments_extent.Given as goal

abbrev pub invariant-loop-i : goal.invariant-loop-i
invariant-loop-i l =
    let rest = map expression_view (drop l.i l.arguments) in
    let whole = map expression_view l.arguments in
    record {
      size : min (l.all.size + arguments_size rest) 65536 ≡ min (arguments_size whole) 65536;
      small : l.all.size ≤ 65536;
      depth : min (max l.all.depth (l.i + arguments_depth rest)) 1073741824 ≡ min (arguments_depth whole) 1073741824;
      low : l.all.depth ≤ 1073741824;
      above : min l.i 1073741824 ≤ l.all.depth;
    }
