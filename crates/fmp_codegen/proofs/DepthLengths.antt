-- The entries of a depth table stand at their places; there is one for each instruction.
use Rattle.std.proofs.Common.{◌≡◌, ℕ, ◌+◌, ◌<◌, List, [], ◌∷◌, ◌++◌, length, Some, refl, ap, ◌∙◌, subst, arith}
use Rattle.std.proofs.Common.{append_assoc, length-append}
use Rattle.std.specs.Prelude.{slice_get}
use Rattle.std.proofs.Math.Seq.{get_or-append_seam}
use Rattle.std.proofs.lemmas.Option.{slice_get-get_or}
use Rattle.fmp_tasklang.specs.Trees.{ExpressionTree, number, named, element, unary, binary, both, either, StatementTree}
use Rattle.fmp_tasklang.specs.Trees.{assign, assign_element, service_call, if_then, if_else, while, break, continue}
use Rattle.fmp_tasklang.specs.Trees.{return, Block, empty, next, BodyTree}
use Rattle.fmp_scopes.specs.DepthTables.{expression_depths, arguments_depths, statement_depths, block_depths}
use Rattle.fmp_scopes.specs.DepthTables.{body_depths}
use Rattle.fmp_scopes.specs.Sizes.{expression_size, arguments_size, statement_size, block_size, body_size}

-- the entries stand in the table from this place on
abbrev pub HasDepths : List ℕ → ℕ → List ℕ → Type 0
HasDepths table at [] = Unit {0}
HasDepths table at (d ∷ ds) = (slice_get table at ≡ Some d) × HasDepths table (at + 1) ds

pub depths_front : (table : List ℕ) (at : ℕ) (a b : List ℕ) → HasDepths table at (a ++ b) → HasDepths table at a
depths_front table at [] b h = tt
depths_front table at (i ∷ a) b h = (h.0, depths_front table (at + 1) a b h.1)

pub depths_back :
    (table : List ℕ) (at n : ℕ) (a b : List ℕ) → length a ≡ n → HasDepths table at (a ++ b) → HasDepths table (at + n) b
depths_back table at n [] b e h = let e : at ≡ at + n = omega arith in subst (λ n. HasDepths table n b) e h
depths_back table at n (i ∷ a) b e h =
    let e' : at + 1 + length a ≡ at + n = omega arith in
    subst (λ n. HasDepths table n b) e' (depths_back table (at + 1) (length a) a b refl h.1)

pub depths_all : (ds before : List ℕ) → HasDepths (before ++ ds) (length before) ds
depths_all [] before = tt
depths_all (d ∷ ds) before =
    let within : length before < length (before ++ d ∷ ds) = omega (arith, length-append before (d ∷ ds)) in
    let here = slice_get-get_or (before ++ d ∷ ds) (length before) d within
    ∙ ap Some (get_or-append_seam before d ds d) in
    let n : length (before ++ d ∷ []) ≡ length before + 1 = omega (arith, length-append before (d ∷ [])) in
    let rest = depths_all ds (before ++ d ∷ []) in
    let rest' = subst (λ l. HasDepths l (length (before ++ d ∷ [])) ds) (append_assoc before (d ∷ []) ds) rest in
    (here, subst (λ m. HasDepths (before ++ d ∷ ds) m ds) n rest')

pub length-expression_depths : (e : ExpressionTree) (d : ℕ) → length (expression_depths e d) ≡ expression_size e
length-expression_depths (number k) d = refl
length-expression_depths (named w) d = refl
length-expression_depths (element w e) d = simp length-append (omega (arith, length-expression_depths e d))
length-expression_depths (unary op e) d = simp length-append (omega (arith, length-expression_depths e d))
length-expression_depths (binary op a b) d =
    simp length-append (omega (arith, length-expression_depths a d, length-expression_depths b (d + 1)))
length-expression_depths (both a b) d =
    simp length-append (omega (arith, length-expression_depths a d, length-expression_depths b d))
length-expression_depths (either a b) d =
    simp length-append (omega (arith, length-expression_depths a d, length-expression_depths b d))

pub length-arguments_depths : (es : List ExpressionTree) (d : ℕ) → length (arguments_depths es d) ≡ arguments_size es
length-arguments_depths [] d = refl
length-arguments_depths (e ∷ es) d =
    simp length-append (omega (arith, length-expression_depths e d, length-arguments_depths es (d + 1)))

mutual
  pub length-statement_depths : (s : StatementTree) → length (statement_depths s) ≡ statement_size s
  length-statement_depths (assign w e) = simp length-append (omega (arith, length-expression_depths e 0))
  length-statement_depths (assign_element w i e) =
      simp length-append (omega (arith, length-expression_depths i 0, length-expression_depths e 1))
  length-statement_depths (service_call c) = simp length-append (omega (arith, length-arguments_depths c.arguments 0))
  length-statement_depths (if_then e s) =
      simp length-append (omega (arith, length-expression_depths e 0, length-block_depths s))
  length-statement_depths (if_else e s r) =
      simp length-append (omega (arith, length-expression_depths e 0, length-block_depths s, length-block_depths r))
  length-statement_depths (while e s) =
      simp length-append (omega (arith, length-expression_depths e 0, length-block_depths s))
  length-statement_depths break = refl
  length-statement_depths continue = refl
  length-statement_depths return = refl

  pub length-block_depths : (b : Block) → length (block_depths b) ≡ block_size b
  length-block_depths empty = refl
  length-block_depths (next s rest) =
      simp length-append (omega (arith, length-statement_depths s, length-block_depths rest))

pub length-body_depths : (body : BodyTree) → length (body_depths body) ≡ body_size body
length-body_depths body = simp length-append (omega (arith, length-block_depths body.statements))
