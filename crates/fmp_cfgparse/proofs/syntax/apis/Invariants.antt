use Rattle.std.proofs.Common.{◌≤◌, ◌-◌, List, length}
use Rattle.fmp_lex.specs.Reading.{kinds_of, ParseResult, map_result}
use Rattle.fmp_cfgparse.specs.Reading.{RightApis}
use Rattle.fmp_cfgparse.specs.Trees.{ApiTree, apis_view}
use Rattle.fmp_lex.proofs.Repetitions.{put_before}
use Rattle.fmp_cfgparse.proofs.syntax.apis.Given as goal

abbrev pub invariant-apis : goal.invariant-apis
invariant-apis l = record {
  within : l.i ≤ length l.tokens;
  goes : (o : ParseResult (List ApiTree)) → RightApis (kinds_of l.tokens) l.i o
      → RightApis (kinds_of l.tokens) l.at (map_result (put_before (apis_view l.found)) o);
}

abbrev pub decreases-apis : goal.decreases-apis
decreases-apis l = length l.tokens - l.i
