use Rattle.std.proofs.Common.{◌≤◌, ◌-◌, List, length}
use Rattle.fmp_base.specs.Systems.{tables_of}
use Rattle.fmp_lex.specs.Reading.{kinds_of, ParseResult, map_result}
use Rattle.fmp_lex.proofs.Repetitions.{put_before}
use Rattle.fmp_tasklang.specs.Trees.{BodyTree}
use Rattle.fmp_tasklang.specs.Reading.{RightBodies}
use Rattle.fmp_codegen.specs.Texts.{AreMade}
use Rattle.fmp_codegen.proofs.texts.compile_bodies.Given as goal

abbrev pub invariant-bodies : goal.invariant-bodies
invariant-bodies l = record {
  within : l.i ≤ length l.tokens;
  goes : (bodies : List BodyTree) × AreMade (tables_of l.objects.system.now) l.made bodies ×
      ((o : ParseResult (List BodyTree)) → RightBodies (kinds_of l.tokens) l.i o
      → RightBodies (kinds_of l.tokens) 0 (map_result (put_before bodies) o));
}

abbrev pub decreases-bodies : goal.decreases-bodies
decreases-bodies l = length l.tokens - l.i
