use Rattle.std.proofs.Common.{◌≡◌, ◌+◌, ◌≤◌, min, max, drop}
use Rattle.fmp_tasklang.specs.Views.{block_view}
use Rattle.fmp_scopes.specs.Depths.{block_depth}
use Rattle.fmp_scopes.specs.Sizes.{block_size}
use Rattle.fmp_scopes.proofs.extents.+statement_extents.Given as goal

abbrev pub invariant-block_extent-loop-s : goal.invariant-block_extent-loop-s
invariant-block_extent-loop-s l =
    let rest = block_view (drop l.s-index l.statements) in
    let whole = block_view l.statements in
    record {
      size : min (l.all.size + block_size rest) 65536 ≡ min (block_size whole) 65536;
      small : l.all.size ≤ 65536;
      depth : min (max l.all.depth (block_depth rest)) 1073741824 ≡ min (block_depth whole) 1073741824;
      low : l.all.depth ≤ 1073741824;
    }
