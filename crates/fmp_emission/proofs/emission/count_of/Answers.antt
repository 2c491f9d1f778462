use Rattle.std.proofs.Common.{◌≤◌, length, map, arith}
use Rattle.std.proofs.lemmas.List.{length-map}
use Rattle.fmp_tasklang.specs.Views.{expression_view}
use Rattle.fmp_scopes.proofs.LeastDepths.{arguments-le-depth}
use Rattle.fmp_emission.proofs.emission.count_of.Goals as goal

pub overflow_cast-result : goal.overflow_cast-result
overflow_cast-result c =
    let few = arguments-le-depth (map expression_view c.args.arguments.now) in
    let same = length-map c.args.arguments.now expression_view in
    let within : length c.args.arguments.now ≤ 64 = omega (arith, few, same, c.requires) in
    omega (arith, within)
