use Rattle.std.proofs.Common.{refl, arith}
use Rattle.fmp_lex.specs.Windows.{here}
use Rattle.fmp_lex.proofs.window.Window.new.Goals as goal

pub returns-clause-passed : goal.returns-clause-passed
returns-clause-passed c = record {
  count = refl;
  within = omega arith;
  cut = (0, here 0 refl, rw (c.part.ensures, c.new.ensures.items) (here 0 refl));
}
