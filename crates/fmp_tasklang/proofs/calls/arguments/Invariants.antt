use Rattle.std.proofs.Common.{◌≡◌, ◌≤◌, List, None, length, drop, map}
use Rattle.fmp_lex.specs.Reading.{kinds_of, ParseResult, map_result}
use Rattle.fmp_lex.proofs.Repetitions.{put_before}
use Rattle.fmp_tasklang.specs.Calls.{ArgumentTree, values_of, out_of}
use Rattle.fmp_tasklang.specs.Reading.{RightParts}
use Rattle.fmp_tasklang.specs.Views.{expression_view}
use Rattle.fmp_tasklang.proofs.calls.arguments.Given as goal

abbrev pub invariant-loop-one : goal.invariant-loop-one
invariant-loop-one l = record {
  within : l.i ≤ length l.tokens;
  service : l.call.service ≡ l.fn.service;
  seen : List ArgumentTree;
  values : map expression_view l.call.arguments.items ≡ values_of seen;
  out : l.call.receivers.out ≡ out_of seen;
  result : l.call.receivers.result ≡ None;
  goes : (o : ParseResult (List ArgumentTree)) → RightParts (kinds_of l.tokens) l.depth
      (drop l.one-index l.parts) l.i o →
      RightParts (kinds_of l.tokens) l.depth l.parts l.at (map_result (put_before seen) o);
}
