-- The variables that receive what a call answers, as contracts see them.
use Rattle.std.specs.Prelude.{Option}
use Rattle.fmp_tasklang.specs.declared.trees.Word.{Word}

-- the variable at the out place and the one before `=`, where they stand
pub record ReceiverWords : Type 0 where
  pub out : Option Word
  pub result : Option Word
