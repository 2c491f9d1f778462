use Rattle.std.proofs.Common.{◌+◌, ◌*◌, ◌-◌, ◌≤◌, length}
use Rattle.fmp_lex.specs.Reading.{kinds_of}
use Rattle.fmp_tasklang.specs.Reading.{statements_view}
use Rattle.fmp_tasklang.proofs.Adding.{Added}
use Rattle.fmp_tasklang.proofs.statements.+statements.Given as goal

abbrev pub decreases-statements : goal.decreases-statements
decreases-statements l = (65 - l.depth) * 9 + 7

abbrev pub decreases-add_statements : goal.decreases-add_statements
decreases-add_statements l = (65 - l.depth) * 9 + 6

abbrev pub decreases-statement : goal.decreases-statement
decreases-statement l = (65 - l.depth) * 9 + 5

abbrev pub decreases-while_statement : goal.decreases-while_statement
decreases-while_statement l = (65 - l.depth) * 9 + 4

abbrev pub decreases-if_statement : goal.decreases-if_statement
decreases-if_statement l = (65 - l.depth) * 9 + 4

abbrev pub decreases-else_part : goal.decreases-else_part
decreases-else_part l = (65 - l.depth) * 9 + 3

abbrev pub decreases-other : goal.decreases-other
decreases-other l = (65 - l.depth) * 9 + 2

abbrev pub decreases-block : goal.decreases-block
decreases-block l = (65 - l.depth) * 9 + 1

abbrev pub invariant-add_statements-statements : goal.invariant-add_statements-statements
invariant-add_statements-statements l = record {
  within : l.at ≤ length l.tokens;
  added : Added (kinds_of l.tokens) l.depth l.looped l.fn.at l.at
      (statements_view l.fn.found) (statements_view l.found);
}

abbrev pub decreases-add_statements-statements : goal.decreases-add_statements-statements
decreases-add_statements-statements l = length l.tokens - l.at
