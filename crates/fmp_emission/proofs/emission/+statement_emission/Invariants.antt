use Rattle.std.proofs.Common.{◌≡◌, ◌+◌, ◌≤◌, ◌++◌, length, drop}
use Rattle.fmp_tasklang.specs.Views.{block_view}
use Rattle.fmp_scopes.specs.Depths.{block_depth}
use Rattle.fmp_scopes.specs.DepthTables.{block_depths}
use Rattle.fmp_scopes.specs.Scheme.{block_code}
use Rattle.fmp_scopes.specs.Scopes.{scope_view}
use Rattle.fmp_scopes.specs.Sizes.{block_size}
use Rattle.fmp_emission.specs.Breaks.{block_breaks}
use Rattle.fmp_emission.proofs.emission.+statement_emission.Given as goal

abbrev pub invariant-emit_block-loop-s : goal.invariant-emit_block-loop-s
invariant-emit_block-loop-s l =
    let made = l.out.instructions.items in
    let begun = l.fn.out.instructions.items in
    let rest = block_view (drop l.s-index l.statements) in
    let whole = block_view l.statements in
    record {
      code : made ++ block_code (scope_view l.names) rest (length made) l.again 0 ≡
          begun ++ block_code (scope_view l.names) whole (length begun) l.again 0;
      len : length made + block_size rest ≡ length begun + block_size whole;
      depths : l.out.depths.items ++ block_depths rest ≡ l.fn.out.depths.items ++ block_depths whole;
      breaks : l.breaks.items ++ block_breaks rest (length made) ≡ l.fn.breaks.items
          ++ block_breaks whole (length begun);
      low : block_depth rest ≤ 64;
    }
