-- The code of a tree has the service calls of the tree, in order.
use Rattle.std.proofs.Common.{◌≡◌, ℕ, ◌+◌, pos, List, [], ◌∷◌, ◌++◌, map, refl, sym, ap, ap₂, ◌∙◌, append_assoc}
use Rattle.std.proofs.Common.{append-nil}
use Rattle.fmp_base.specs.Systems.{SystemTables}
use Rattle.fmp_tasklang.specs.declared.trees.Word.{Word}
use Rattle.fmp_tasklang.specs.Layout.{Local}
use Rattle.fmp_tasklang.specs.Scopes.{Scope, NameMeaning, Variable, Array, Object, Unknown, meaning_of, scope_of}
use Rattle.fmp_tasklang.specs.Trees.{ExpressionTree, number, named, element, unary, binary, both, either, StatementTree}
use Rattle.fmp_tasklang.specs.Trees.{assign, assign_element, service_call, if_then, if_else, while, break, continue}
use Rattle.fmp_tasklang.specs.Trees.{return, Block, empty, next, BodyTree}
use Rattle.fmp_instructions.specs.declared.instructions.Instruction.{Instruction}
use Rattle.fmp_instructions.specs.declared.instructions.Instruction.TheVariants.{Push, Store, Unary, Truth, Binary}
use Rattle.fmp_instructions.specs.declared.instructions.Instruction.TheVariants.{Jump, JumpIfZero, End}
use Rattle.fmp_scopes.specs.Scheme.{name_code, load_element, store_element, expression_code, arguments_code}
use Rattle.fmp_scopes.specs.Scheme.{target_place}
use Rattle.fmp_scopes.specs.Scheme.{call_instruction, statement_code, block_code, body_code}
use Rattle.fmp_scopes.specs.Sizes.{expression_size, statement_size, block_size}
use Rattle.fmp_codegen.specs.Calls.{instruction_calls, code_calls, body_calls, statement_calls, block_calls, tree_calls}
use Rattle.fmp_codegen.specs.Compiling.{compiled}

code_calls-append : (a b : List Instruction) → code_calls (a ++ b) ≡ code_calls a ++ code_calls b
code_calls-append [] b = refl
code_calls-append (i ∷ a) b =
    ap (λ cs. instruction_calls i ++ cs) (code_calls-append a b)
    ∙ sym (append_assoc (instruction_calls i) (code_calls a) (code_calls b))

-- instructions without calls, and others
none_before : (a b : List Instruction) → code_calls a ≡ [] → code_calls (a ++ b) ≡ code_calls b
none_before a b e = code_calls-append a b ∙ ap (λ cs. cs ++ code_calls b) e

name_calls : (locals : List Local) (m : NameMeaning) → code_calls (name_code locals m ∷ []) ≡ []
name_calls locals (Variable v) = refl
name_calls locals (Array v) = refl
name_calls locals (Object k) = refl
name_calls locals Unknown = refl

expression_calls : (scope : Scope) (e : ExpressionTree) (at : ℕ) → code_calls (expression_code scope e at) ≡ []
expression_calls scope (number k) at = refl
expression_calls scope (named w) at = name_calls scope.locals (meaning_of scope w.name)
expression_calls scope (element w e) at =
    none_before (expression_code scope e at) (load_element scope (meaning_of scope w.name) ∷ [])
    (expression_calls scope e at)
expression_calls scope (unary op e) at =
    none_before (expression_code scope e at) (Unary op ∷ []) (expression_calls scope e at)
expression_calls scope (binary op a b) at =
    let second = expression_code scope b (at + expression_size a) in
    none_before (expression_code scope a at) (second ++ Binary op ∷ []) (expression_calls scope a at)
    ∙ none_before second (Binary op ∷ []) (expression_calls scope b (at + expression_size a))
expression_calls scope (both a b) at =
    let from = at + expression_size a + 1 in
    let no = from + expression_size b + 2 in
    let second = expression_code scope b from in
    let ends = Truth ∷ Jump (no + 1) ∷ Push (pos 0) ∷ [] in
    none_before (expression_code scope a at) (JumpIfZero no ∷ (second ++ ends)) (expression_calls scope a at)
    ∙ none_before second ends (expression_calls scope b from)
expression_calls scope (either a b) at =
    let from = at + expression_size a + 3 in
    let second = expression_code scope b from in
    none_before (expression_code scope a at)
    (JumpIfZero from ∷ Push (pos 1) ∷ Jump (from + expression_size b + 1) ∷ (second ++ Truth ∷ []))
    (expression_calls scope a at)
    ∙ none_before second (Truth ∷ []) (expression_calls scope b from)

arguments_calls : (scope : Scope) (es : List ExpressionTree) (at : ℕ) → code_calls (arguments_code scope es at) ≡ []
arguments_calls scope [] at = refl
arguments_calls scope (e ∷ es) at =
    none_before (expression_code scope e at) (arguments_code scope es (at + expression_size e))
    (expression_calls scope e at)
    ∙ arguments_calls scope es (at + expression_size e)

element_calls :
    (scope : Scope) (w : Word) (i e : ExpressionTree) (at : ℕ) →
    code_calls (statement_code scope (assign_element w i e) at 0 0) ≡ []
element_calls scope w i e at =
    let value = expression_code scope e (at + expression_size i) in
    let store = store_element scope (meaning_of scope w.name) ∷ [] in
    none_before (expression_code scope i at) (value ++ store) (expression_calls scope i at)
    ∙ none_before value store (expression_calls scope e (at + expression_size i))

mutual
  statement_keeps :
      (scope : Scope) (s : StatementTree) (at again exit : ℕ) →
      code_calls (statement_code scope s at again exit) ≡ statement_calls s
  statement_keeps scope (assign w e) at again exit =
      none_before (expression_code scope e at) (Store (target_place scope w) ∷ []) (expression_calls scope e at)
  statement_keeps scope (assign_element w i e) at again exit = element_calls scope w i e at
  statement_keeps scope (service_call c) at again exit =
      none_before (arguments_code scope c.arguments at) (call_instruction scope c ∷ [])
      (arguments_calls scope c.arguments at)
  statement_keeps scope (if_then e s) at again exit =
      let first = at + expression_size e + 1 in
      none_before (expression_code scope e at)
      (JumpIfZero (first + block_size s) ∷ block_code scope s first again exit) (expression_calls scope e at)
      ∙ block_keeps scope s first again exit
  statement_keeps scope (if_else e s r) at again exit =
      let first = at + expression_size e + 1 in
      let second = first + block_size s + 1 in
      let front = block_code scope s first again exit in
      let back = Jump (second + block_size r) ∷ block_code scope r second again exit in
      none_before (expression_code scope e at) (JumpIfZero second ∷ (front ++ back)) (expression_calls scope e at)
      ∙ code_calls-append front back
      ∙ ap₂ (λ a b. a ++ b) (block_keeps scope s first again exit) (block_keeps scope r second again exit)
  statement_keeps scope (while e s) at again exit =
      let first = at + expression_size e + 1 in
      let after = first + block_size s + 1 in
      let front = block_code scope s first at after in
      none_before (expression_code scope e at) (JumpIfZero after ∷ (front ++ Jump at ∷ []))
      (expression_calls scope e at)
      ∙ code_calls-append front (Jump at ∷ [])
      ∙ append-nil (code_calls front)
      ∙ block_keeps scope s first at after
  statement_keeps scope break at again exit = refl
  statement_keeps scope continue at again exit = refl
  statement_keeps scope return at again exit = refl

  block_keeps :
      (scope : Scope) (b : Block) (at again exit : ℕ) →
      code_calls (block_code scope b at again exit) ≡ block_calls b
  block_keeps scope empty at again exit = refl
  block_keeps scope (next s rest) at again exit =
      code_calls-append (statement_code scope s at again exit)
      (block_code scope rest (at + statement_size s) again exit)
      ∙ ap₂ (λ a b. a ++ b) (statement_keeps scope s at again exit)
      (block_keeps scope rest (at + statement_size s) again exit)

pub body_keeps : (tables : SystemTables) (body : BodyTree) → code_calls (body_code tables body) ≡ tree_calls body
body_keeps tables body =
    let end = block_size body.statements in
    let statements = block_code (scope_of tables body) body.statements 0 end end in
    code_calls-append statements (End ∷ [])
    ∙ append-nil (code_calls statements)
    ∙ block_keeps (scope_of tables body) body.statements 0 end end

pub bodies_keep :
    (tables : SystemTables) (bodies : List BodyTree) →
    map body_calls (compiled tables bodies) ≡ map tree_calls bodies
bodies_keep tables [] = refl
bodies_keep tables (b ∷ bs) = ap₂ (λ c cs. c ∷ cs) (body_keeps tables b) (bodies_keep tables bs)
