use Rattle.std.proofs.Common.{◌≡◌, ◌+◌, ◌≤◌, min, max, drop, map}
use Rattle.fmp_tasklang.specs.Views.{link_view}
use Rattle.fmp_scopes.specs.Chains.{links_size, links_depth}
use Rattle.fmp_scopes.proofs.extents.+expression_extents.Given as goal

abbrev pub invariant-links_extent-loop-link : goal.invariant-links_extent-loop-link
invariant-links_extent-loop-link l =
    let rest = map link_view (drop l.link-index l.links) in
    let whole = map link_view l.links in
    record {
      size : min (l.all.size + links_size rest) 65536 ≡ min (links_size whole) 65536;
      small : l.all.size ≤ 65536;
      depth : min (max l.all.depth (links_depth rest)) 1073741824 ≡ min (links_depth whole) 1073741824;
      low : l.all.depth ≤ 1073741824;
    }
