use Rattle.std.proofs.Common.{◌≡◌, ◌≤◌, ◌-◌, None, length}
use Rattle.fmp_base.specs.Systems.{tables_of}
use Rattle.fmp_lex.specs.Windows.{IsWindow}
use Rattle.fmp_codegen.proofs.StreamMaking.{IsMadeSoFar}
use Rattle.fmp_codegen.proofs.texts.add_streamed.Given as goal

abbrev pub invariant-bodies : goal.invariant-bodies
invariant-bodies l = record {
  window : IsWindow l.window;
  text : l.window.text.now ≡ l.fn.window.text.now;
  few : l.i ≤ length l.fn.window.text.now;
  fine : l.made.offence ≡ None;
  goes : IsMadeSoFar (tables_of l.objects.system.now) l.made l.fn.window l.window l.i;
}

abbrev pub decreases-bodies : goal.decreases-bodies
decreases-bodies l = length l.fn.window.text.now - l.i
