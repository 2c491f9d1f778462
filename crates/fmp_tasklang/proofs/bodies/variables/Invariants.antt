use Rattle.std.proofs.Common.{◌≤◌, ◌-◌, List, length}
use Rattle.fmp_lex.specs.Reading.{kinds_of, ParseResult, map_result}
use Rattle.fmp_lex.proofs.Repetitions.{put_before}
use Rattle.fmp_tasklang.specs.declared.trees.Declaration.{Declaration}
use Rattle.fmp_tasklang.specs.Reading.{declarations_view, RightVariables}
use Rattle.fmp_tasklang.proofs.bodies.variables.Given as goal

abbrev pub invariant-variables : goal.invariant-variables
invariant-variables l = record {
  within : l.i ≤ length l.tokens;
  goes : (o : ParseResult (List Declaration)) → RightVariables (kinds_of l.tokens) l.i o
      → RightVariables (kinds_of l.tokens) l.at (map_result (put_before (declarations_view l.found)) o);
}

abbrev pub decreases-variables : goal.decreases-variables
decreases-variables l = length l.tokens - l.i
