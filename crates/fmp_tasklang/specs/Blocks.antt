-- Blocks as lists of statements.
use Rattle.std.specs.Prelude.{List, [], ◌∷◌, Option, Some, None}
use Rattle.fmp_tasklang.specs.Trees.{ExpressionTree, StatementTree, if_then, if_else, Block, empty, next}

-- the block of these statements
abbrev pub block_of : List StatementTree → Block
block_of [] = empty
block_of (s ∷ ss) = next s (block_of ss)

-- an `if` with this condition and block, and with what stands after `else`, if there is one
abbrev pub choice : ExpressionTree → Block → Option Block → StatementTree
choice e b None = if_then e b
choice e b (Some other) = if_else e b other
