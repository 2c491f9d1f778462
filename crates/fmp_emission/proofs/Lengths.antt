-- The lengths of the code of a tree.
use Rattle.std.proofs.Common.{◌≡◌, ℕ, ◌+◌, List, [], ◌∷◌, length, refl, ap, arith, length-append}
use Rattle.fmp_base.specs.Systems.{SystemTables}
use Rattle.fmp_tasklang.specs.Trees.{ExpressionTree, number, named, element, unary, binary, both, either, StatementTree}
use Rattle.fmp_tasklang.specs.Trees.{assign, assign_element, service_call, if_then, if_else, while, break, continue}
use Rattle.fmp_tasklang.specs.Trees.{return, Block, empty, next, BodyTree}
use Rattle.fmp_tasklang.specs.Scopes.{Scope, scope_of}
use Rattle.fmp_scopes.specs.Scheme.{expression_code, arguments_code, statement_code, block_code, body_code}
use Rattle.fmp_scopes.specs.Sizes.{expression_size, arguments_size, statement_size, block_size, body_size}

module _ (scope : Scope) where
  pub length-expression_code : (e : ExpressionTree) (at : ℕ) → length (expression_code scope e at) ≡ expression_size e
  length-expression_code (number k) at = refl
  length-expression_code (named w) at = refl
  length-expression_code (element w e) at = simp length-append (omega (arith, length-expression_code e at))
  length-expression_code (unary op e) at = simp length-append (omega (arith, length-expression_code e at))
  length-expression_code (binary op a b) at =
      simp length-append (omega (arith, length-expression_code a at, length-expression_code b (at + expression_size a)))
  length-expression_code (both a b) at =
      simp length-append (omega (
        arith,
        length-expression_code a at,
        length-expression_code b
            (at + expression_size a + 1),
      ))
  length-expression_code (either a b) at =
      simp length-append (omega (
        arith,
        length-expression_code a at,
        length-expression_code b
            (at + expression_size a + 3),
      ))

  pub length-arguments_code : (es : List ExpressionTree) (at : ℕ) → length (arguments_code scope es at)
      ≡ arguments_size es
  length-arguments_code [] at = refl
  length-arguments_code (e ∷ es) at =
      simp length-append (omega (arith, length-expression_code e at, length-arguments_code es (at + expression_size e)))

  mutual
    pub length-statement_code :
        (s : StatementTree) (at again exit : ℕ) → length (statement_code scope s at again exit) ≡ statement_size s
    length-statement_code (assign w e) at again exit = simp length-append (omega (arith, length-expression_code e at))
    length-statement_code (assign_element w i e) at again exit =
        simp length-append
        (omega (arith, length-expression_code i at, length-expression_code e (at + expression_size i)))
    length-statement_code (service_call c) at again exit = simp length-append
        (omega (arith, length-arguments_code c.arguments at))
    length-statement_code (if_then e s) at again exit =
        simp length-append
        (omega (arith, length-expression_code e at, length-block_code s (at + expression_size e + 1) again exit))
    length-statement_code (if_else e s r) at again exit =
        let first = at + expression_size e + 1 in
        simp length-append
        (omega (
          arith,
          length-expression_code e at,
          length-block_code s first again exit,
          length-block_code r
              (first + block_size s + 1) again exit,
        ))
    length-statement_code (while e s) at again exit =
        let first = at + expression_size e + 1 in
        simp length-append
        (omega (arith, length-expression_code e at, length-block_code s first at (first + block_size s + 1)))
    length-statement_code break at again exit = refl
    length-statement_code continue at again exit = refl
    length-statement_code return at again exit = refl

    pub length-block_code : (b : Block) (at again exit : ℕ) → length (block_code scope b at again exit) ≡ block_size b
    length-block_code empty at again exit = refl
    length-block_code (next s rest) at again exit =
        simp length-append
        (omega (
          arith,
          length-statement_code s at again exit,
          length-block_code rest
              (at + statement_size s) again exit,
        ))

pub length-body_code : (tables : SystemTables) (body : BodyTree) → length (body_code tables body) ≡ body_size body
length-body_code tables body =
    let size = block_size body.statements in
    simp length-append (omega (arith, length-block_code (scope_of tables body) body.statements 0 size size))
