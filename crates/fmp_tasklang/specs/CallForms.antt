-- The calls of a tree as the grammar has them.
use Rattle.std.specs.Prelude.{◌≡◌, List, [], ◌∷◌, length, is_some}
use Rattle.fmp_base.specs.Services.{arity, out_place}
use Rattle.fmp_tasklang.specs.Trees.{CallTree, StatementTree, assign, assign_element, service_call, if_then, if_else}
use Rattle.fmp_tasklang.specs.Trees.{while, break, continue, return, Block, empty, next, BodyTree}

-- as many arguments as the service takes, and a variable at the out place exactly if the service has one
abbrev pub CallFits : CallTree → Type 0
CallFits c = (length c.arguments ≡ arity c.service) × (is_some c.out ≡ is_some (out_place c.service))

-- each call of a statement, and of the statements of a block
abbrev mutual
  pub StatementFits : StatementTree → Type 0
  StatementFits (assign w e) = Unit {0}
  StatementFits (assign_element w i e) = Unit {0}
  StatementFits (service_call c) = CallFits c
  StatementFits (if_then e s) = BlockFits s
  StatementFits (if_else e s r) = BlockFits s × BlockFits r
  StatementFits (while e s) = BlockFits s
  StatementFits break = Unit {0}
  StatementFits continue = Unit {0}
  StatementFits return = Unit {0}

  pub BlockFits : Block → Type 0
  BlockFits empty = Unit {0}
  BlockFits (next s rest) = StatementFits s × BlockFits rest

-- each call of the bodies of a text
abbrev pub CallsFit : List BodyTree → Type 0
CallsFit [] = Unit {0}
CallsFit (b ∷ bs) = BlockFits b.statements × CallsFit bs
