use Rattle.std.proofs.Common.{◌≡◌, ◌-◌, ◌≤◌, false, length}
use Rattle.fmp_lex.specs.Reading.{Star}
use Rattle.fmp_lex.specs.Windows.{IsWindow, Streams}
use Rattle.fmp_tasklang.specs.Reading.{OneStatement, statements_view}
use Rattle.fmp_tasklang.proofs.streaming.stream_statements.Given as goal

abbrev pub invariant-parts : goal.invariant-parts
invariant-parts l = record {
  text : l.window.text.now ≡ l.fn.window.text.now;
  window : IsWindow l.window;
  within : l.i ≤ length l.window.tokens;
  statements : Streams (Star (OneStatement 0 false)) l.fn.window l.window l.fn.at (statements_view l.found) l.i;
}

abbrev pub decreases-parts : goal.decreases-parts
decreases-parts l = length l.window.text.now - l.window.next
