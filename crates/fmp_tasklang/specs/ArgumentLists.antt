-- The arguments of a call, as contracts see them.
use Rattle.std.specs.Prelude.{List}
use Rattle.fmp_tasklang.specs.declared.trees.Expression.{Expression}

-- the arguments without the out place, in order
pub record ArgumentItems : Type 0 where
  pub items : List Expression
