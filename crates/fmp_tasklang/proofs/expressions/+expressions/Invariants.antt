use Rattle.std.proofs.Common.{◌+◌, ◌*◌, ◌-◌, ◌≤◌, List, length}
use Rattle.fmp_lex.specs.Reading.{kinds_of, ParseResult, found, map_result}
use Rattle.fmp_lex.proofs.Repetitions.{put_before}
use Rattle.fmp_tasklang.specs.Reading.{links_view, RightExpression, RightLinks}
use Rattle.fmp_tasklang.specs.Views.{LinkTree, expression_view}
use Rattle.fmp_tasklang.proofs.expressions.+expressions.Given as goal

abbrev pub decreases-operand : goal.decreases-operand
decreases-operand l = (65 - l.depth) * 32 + 3

abbrev pub decreases-named : goal.decreases-named
decreases-named l = (65 - l.depth) * 32 + 2

abbrev pub decreases-element : goal.decreases-element
decreases-element l = (65 - l.depth) * 32 + 1

abbrev pub decreases-bracketed : goal.decreases-bracketed
decreases-bracketed l = (65 - l.depth) * 32

abbrev pub decreases-unary : goal.decreases-unary
decreases-unary l = (65 - l.depth) * 32

abbrev pub decreases-group : goal.decreases-group
decreases-group l = (65 - l.depth) * 32

abbrev pub decreases-expression : goal.decreases-expression
decreases-expression l = (65 - l.depth) * 32 + 2 * l.level + 4

abbrev pub decreases-links : goal.decreases-links
decreases-links l = (65 - l.depth) * 32 + 2 * l.level + 5

abbrev pub invariant-expression-levels : goal.invariant-expression-levels
invariant-expression-levels l = record {
  within : l.next ≤ length (kinds_of l.tokens);
  below : l.read ≤ l.level;
  right : RightExpression (kinds_of l.tokens) l.depth l.read l.at (found (expression_view l.tree) l.next);
}

abbrev pub decreases-expression-levels : goal.decreases-expression-levels
decreases-expression-levels l = l.level - l.read

abbrev pub invariant-links-links : goal.invariant-links-links
invariant-links-links l = record {
  within : l.i ≤ length l.tokens;
  goes : (o : ParseResult (List LinkTree)) → RightLinks (kinds_of l.tokens) l.depth l.level l.i o →
      RightLinks (kinds_of l.tokens) l.depth l.level l.at (map_result (put_before (links_view l.found)) o);
}

abbrev pub decreases-links-links : goal.decreases-links-links
decreases-links-links l = length l.tokens - l.i
