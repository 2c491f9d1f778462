use Rattle.std.proofs.Common.{◌≤◌, ◌-◌, List, length}
use Rattle.fmp_lex.specs.Reading.{kinds_of, At, ParseResult, Right, map_result, Star}
use Rattle.fmp_cfgparse.specs.declared.tree.Item.{Item}
use Rattle.fmp_cfgparse.specs.Grammar.{MoreItem}
use Rattle.fmp_cfgparse.specs.Reading.{EndsValue, RightValue}
use Rattle.fmp_lex.proofs.Repetitions.{put_before}
use Rattle.fmp_cfgparse.proofs.syntax.value.Given as goal

abbrev pub invariant-items : goal.invariant-items
invariant-items l = record {
  within : l.i ≤ length l.tokens;
  goes : (o : ParseResult (List Item)) → Right (At (Star MoreItem) l.i) EndsValue (kinds_of l.tokens) l.i o →
      RightValue (kinds_of l.tokens) l.at (map_result (put_before l.items.items) o);
}

abbrev pub decreases-items : goal.decreases-items
decreases-items l = length l.tokens - l.i
