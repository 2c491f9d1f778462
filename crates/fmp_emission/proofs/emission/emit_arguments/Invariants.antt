use Rattle.std.proofs.Common.{◌≡◌, ◌+◌, ◌≤◌, ◌++◌, length, drop, map}
use Rattle.fmp_tasklang.specs.Views.{expression_view}
use Rattle.fmp_scopes.specs.Depths.{arguments_depth}
use Rattle.fmp_scopes.specs.DepthTables.{arguments_depths}
use Rattle.fmp_scopes.specs.Scheme.{arguments_code}
use Rattle.fmp_scopes.specs.Scopes.{scope_view}
use Rattle.fmp_scopes.specs.Sizes.{arguments_size}
use Rattle.fmp_emission.proofs.emission.emit_arguments.Given as goal

abbrev pub invariant-loop-i : goal.invariant-loop-i
invariant-loop-i l =
    let made = l.out.instructions.items in
    let begun = l.fn.out.instructions.items in
    let rest = map expression_view (drop l.i l.arguments) in
    let whole = map expression_view l.arguments in
    record {
      code : made ++ arguments_code (scope_view l.names) rest (length made) ≡
          begun ++ arguments_code (scope_view l.names) whole (length begun);
      len : length made + arguments_size rest ≡ length begun + arguments_size whole;
      depths : l.out.depths.items ++ arguments_depths rest l.i ≡ l.fn.out.depths.items ++ arguments_depths whole 0;
      low : l.i + arguments_depth rest ≤ 64;
    }
