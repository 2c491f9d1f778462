use Rattle.std.proofs.Common.{◌≡◌, ◌+◌, ◌≤◌, ◌++◌, length, drop, map}
use Rattle.fmp_tasklang.specs.Views.{link_view}
use Rattle.fmp_scopes.specs.Chains.{links_size, links_depth, links_code, links_depths}
use Rattle.fmp_scopes.specs.Scopes.{scope_view}
use Rattle.fmp_emission.proofs.expressions.+expression_emission.Given as goal

abbrev pub invariant-emit_links-loop-link : goal.invariant-emit_links-loop-link
invariant-emit_links-loop-link l =
    let made = l.out.instructions.items in
    let begun = l.fn.out.instructions.items in
    let rest = map link_view (drop l.link-index l.links) in
    let whole = map link_view l.links in
    record {
      code : made ++ links_code (scope_view l.names) rest (length made) ≡
          begun ++ links_code (scope_view l.names) whole (length begun);
      len : length made + links_size rest ≡ length begun + links_size whole;
      depths : l.out.depths.items ++ links_depths rest l.depth ≡ l.fn.out.depths.items ++ links_depths whole l.depth;
      low : l.depth + links_depth rest ≤ 64;
    }
