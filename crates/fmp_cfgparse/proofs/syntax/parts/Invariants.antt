use Rattle.std.proofs.Common.{◌≤◌, List, length, drop}
use Rattle.fmp_lex.specs.Reading.{kinds_of, ParseResult, map_result}
use Rattle.fmp_cfgparse.specs.Reading.{RightParts}
use Rattle.fmp_cfgparse.specs.Trees.{FieldTree, fields_view}
use Rattle.fmp_lex.proofs.Repetitions.{put_before}
use Rattle.fmp_cfgparse.proofs.syntax.parts.Given as goal

abbrev pub invariant-loop-one : goal.invariant-loop-one
invariant-loop-one l = record {
  within : l.i ≤ length l.tokens;
  goes : (o : ParseResult (List FieldTree)) → RightParts (drop l.one-index l.parts) (kinds_of l.tokens) l.i o →
      RightParts l.parts (kinds_of l.tokens) l.at (map_result (put_before (fields_view l.fields)) o);
}
