-- The jumps of the `break`s of a loop, which lead past its body once that is emitted.
use Rattle.std.specs.Prelude.{ℕ, ◌+◌, List, [], ◌∷◌, ◌++◌, slice_set}
use Rattle.fmp_tasklang.specs.Trees.{StatementTree, assign, assign_element, service_call, if_then, if_else, while}
use Rattle.fmp_tasklang.specs.Trees.{break, continue, return, Block, empty, next}
use Rattle.fmp_instructions.specs.declared.instructions.Instruction.{Instruction}
use Rattle.fmp_instructions.specs.declared.instructions.Instruction.TheVariants.{Jump}
use Rattle.fmp_scopes.specs.Sizes.{expression_size, statement_size, block_size}

-- the places of the jumps that leave the loop around a statement, or around the statements of a block
abbrev mutual
  pub statement_breaks : StatementTree → (at : ℕ) → List ℕ
  statement_breaks (assign w e) at = []
  statement_breaks (assign_element w i e) at = []
  statement_breaks (service_call c) at = []
  statement_breaks (if_then e s) at = block_breaks s (at + expression_size e + 1)
  statement_breaks (if_else e s r) at =
      block_breaks s (at + expression_size e + 1) ++ block_breaks r (at + expression_size e + 1 + block_size s + 1)
  statement_breaks (while e s) at = []
  statement_breaks break at = at ∷ []
  statement_breaks continue at = []
  statement_breaks return at = []

  pub block_breaks : Block → (at : ℕ) → List ℕ
  block_breaks empty at = []
  block_breaks (next s rest) at = statement_breaks s at ++ block_breaks rest (at + statement_size s)

-- code in which the jumps at these places lead to another place
abbrev pub led_to : (place : ℕ) → List ℕ → List Instruction → List Instruction
led_to place [] code = code
led_to place (at ∷ rest) code = led_to place rest (slice_set code at (Jump place))
