use Rattle.std.proofs.Common.{◌≤◌, ◌-◌, List, length}
use Rattle.fmp_lex.specs.Reading.{kinds_of, ParseResult, map_result}
use Rattle.fmp_cfgparse.specs.Reading.{RightClasses}
use Rattle.fmp_cfgparse.specs.Trees.{ClassTree, classes_view}
use Rattle.fmp_lex.proofs.Repetitions.{put_before}
use Rattle.fmp_cfgparse.proofs.syntax.classes.Given as goal

abbrev pub invariant-classes : goal.invariant-classes
invariant-classes l = record {
  within : l.i ≤ length l.tokens;
  goes : (o : ParseResult (List ClassTree)) → RightClasses (kinds_of l.tokens) l.i o
      → RightClasses (kinds_of l.tokens) l.at (map_result (put_before (classes_view l.found)) o);
}

abbrev pub decreases-classes : goal.decreases-classes
decreases-classes l = length l.tokens - l.i
