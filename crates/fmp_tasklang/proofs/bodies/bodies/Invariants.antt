use Rattle.std.proofs.Common.{◌≤◌, ◌-◌, List, length}
use Rattle.fmp_lex.specs.Reading.{kinds_of, ParseResult, map_result}
use Rattle.fmp_lex.proofs.Repetitions.{put_before}
use Rattle.fmp_tasklang.specs.Trees.{BodyTree}
use Rattle.fmp_tasklang.specs.Reading.{bodies_view, RightBodies}
use Rattle.fmp_tasklang.proofs.bodies.bodies.Given as goal

abbrev pub invariant-bodies : goal.invariant-bodies
invariant-bodies l = record {
  within : l.i ≤ length l.tokens;
  goes : (o : ParseResult (List BodyTree)) → RightBodies (kinds_of l.tokens) l.i o
      → RightBodies (kinds_of l.tokens) l.at (map_result (put_before (bodies_view l.found)) o);
}

abbrev pub decreases-bodies : goal.decreases-bodies
decreases-bodies l = length l.tokens - l.i
