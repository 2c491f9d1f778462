-- The service calls of bodies: in their code from the front, in their trees, and in their tokens.
use Rattle.std.specs.Prelude.{◌≡◌, List, [], ◌∷◌, ◌++◌, map, is_some, if◌then◌else◌}
use Rattle.fmp_base.specs.declared.services.Service.{Service}
use Rattle.fmp_base.specs.Systems.{SystemTables}
use Rattle.fmp_lex.specs.declared.token.TokenKind.{TokenKind}
use Rattle.fmp_lex.specs.declared.token.TokenKind.TheVariants as kind
use Rattle.fmp_lex.specs.Reading.{IsWhole}
use Rattle.fmp_tasklang.specs.Grammar.{body_kind_of, Bodies}
use Rattle.fmp_tasklang.specs.Trees.{StatementTree, assign, assign_element, service_call, if_then, if_else, while}
use Rattle.fmp_tasklang.specs.Trees.{break, continue, return, Block, empty, next, BodyTree}
use Rattle.fmp_instructions.specs.declared.instructions.Instruction.{Instruction}
use Rattle.fmp_instructions.specs.declared.instructions.Instruction.TheVariants as instruction
use Rattle.fmp_instructions.specs.Instructions.{BodyTables}
use Rattle.fmp_scopes.specs.Scheme.{body_code}
use Rattle.fmp_codegen.specs.Compiling.{compiled}

-- the service that an instruction calls
abbrev pub instruction_calls : Instruction → List Service
instruction_calls (instruction.Call service out result) = service ∷ []
instruction_calls _ = []

-- the services that instructions call, from the front
abbrev pub code_calls : List Instruction → List Service
code_calls [] = []
code_calls (i ∷ is) = instruction_calls i ++ code_calls is

abbrev pub body_calls : BodyTables → List Service
body_calls body = code_calls body.instructions

-- the services that a statement calls, and those that the statements of a block call, as they are written
abbrev mutual
  pub statement_calls : StatementTree → List Service
  statement_calls (assign w e) = []
  statement_calls (assign_element w i e) = []
  statement_calls (service_call c) = c.service ∷ []
  statement_calls (if_then e s) = block_calls s
  statement_calls (if_else e s r) = block_calls s ++ block_calls r
  statement_calls (while e s) = block_calls s
  statement_calls break = []
  statement_calls continue = []
  statement_calls return = []

  pub block_calls : Block → List Service
  block_calls empty = []
  block_calls (next s rest) = statement_calls s ++ block_calls rest

abbrev pub tree_calls : BodyTree → List Service
tree_calls body = block_calls body.statements

-- the service that a token names
abbrev pub token_calls : TokenKind → List Service
token_calls (kind.Service s) = s ∷ []
token_calls _ = []

-- the services that tokens name, up to where the next body begins
abbrev pub calls_to_next : List TokenKind → List Service
calls_to_next [] = []
calls_to_next (t ∷ ts) = if is_some (body_kind_of t) then [] else token_calls t ++ calls_to_next ts

-- the same for each body that begins in tokens
abbrev pub text_calls : List TokenKind → List (List Service)
text_calls [] = []
text_calls (t ∷ ts) = if is_some (body_kind_of t) then calls_to_next ts ∷ text_calls ts else text_calls ts

-- The code of a body has the calls of its tree, in order; and where tokens spell bodies, the code of each has the calls
-- that its tokens name, in their order.
pub record KeepsCalls : Type 0 where
  pub tree : (tables : SystemTables) (body : BodyTree) → code_calls (body_code tables body) ≡ tree_calls body
  pub tokens : (tables : SystemTables) (ts : List TokenKind) (bodies : List BodyTree) → IsWhole Bodies ts bodies →
      map body_calls (compiled tables bodies) ≡ text_calls ts
