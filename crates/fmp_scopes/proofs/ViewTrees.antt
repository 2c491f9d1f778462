-- What a chain in boxes and vectors amounts to.
use Rattle.std.proofs.Common.{◌≡◌, ℕ, ◌+◌, ◌<◌, max, List, [], ◌∷◌, ◌++◌, length, drop, get_or, map, Box, sym, ap, ◌∙◌}
use Rattle.std.proofs.Common.{append_assoc}
use Rattle.std.specs.declared.alloc.Global.{Global}
use Rattle.std.specs.declared.vec.Vec.{Vec}
use Rattle.fmp_base.specs.declared.operators.UnaryOperator.{UnaryOperator}
use Rattle.fmp_instructions.specs.declared.instructions.Instruction.{Instruction}
use Rattle.fmp_instructions.specs.declared.instructions.Instruction.TheVariants as instruction
use Rattle.fmp_tasklang.specs.declared.trees.Expression.{Expression, Unary, Chain}
use Rattle.fmp_tasklang.specs.declared.trees.Link.{Link}
use Rattle.fmp_tasklang.specs.Scopes.{Scope}
use Rattle.fmp_tasklang.specs.declared.trees.Statement.{Statement, If, IfElse, While}
use Rattle.fmp_tasklang.specs.Trees.{if_then, if_else, while, next}
use Rattle.fmp_tasklang.specs.Views.{expression_view, link_view, statement_view, block_view}
use Rattle.fmp_tasklang.proofs.Views.{expression_view-Unary, expression_view-Chain, link_view-is, statement_view-If}
use Rattle.fmp_tasklang.proofs.Views.{statement_view-IfElse, statement_view-While}
use Rattle.fmp_scopes.specs.Chains.{links_size, links_depth, links_uses, links_code, links_depths}
use Rattle.fmp_scopes.specs.Depths.{expression_depth}
use Rattle.fmp_scopes.specs.DepthTables.{expression_depths}
use Rattle.fmp_scopes.specs.Naming.{expression_uses}
use Rattle.fmp_scopes.specs.Scheme.{expression_code}
use Rattle.fmp_scopes.specs.Sizes.{expression_size}
use Rattle.fmp_scopes.proofs.Loops.{drop-step, map-step}
use Rattle.fmp_scopes.proofs.ChainTrees.{chain-size, chain-depth, chain-uses, chain-code, chain-depths}

module _ (e : Expression) (first : Box Expression Global) (links : Vec Link Global) (is : e ≡ Chain first links) where
  pub size-Chain :
      expression_size (expression_view e) ≡ expression_size (expression_view first.value)
      + links_size (map link_view links.items)
  size-Chain =
      ap (λ x. expression_size (expression_view x)) is ∙ ap expression_size (expression_view-Chain first links)
      ∙ chain-size (expression_view first.value) (map link_view links.items)

  pub depth-Chain :
      expression_depth (expression_view e) ≡
      max (expression_depth (expression_view first.value)) (links_depth (map link_view links.items))
  depth-Chain =
      ap (λ x. expression_depth (expression_view x)) is ∙ ap expression_depth (expression_view-Chain first links)
      ∙ chain-depth (expression_view first.value) (map link_view links.items)

  pub uses-Chain :
      expression_uses (expression_view e) ≡ expression_uses (expression_view first.value)
      ++ links_uses (map link_view links.items)
  uses-Chain =
      ap (λ x. expression_uses (expression_view x)) is ∙ ap expression_uses (expression_view-Chain first links)
      ∙ chain-uses (expression_view first.value) (map link_view links.items)

  pub code-Chain :
      (scope : Scope) (at : ℕ) →
      expression_code scope (expression_view e) at ≡
      expression_code scope (expression_view first.value) at ++
      links_code scope (map link_view links.items) (at + expression_size (expression_view first.value))
  code-Chain scope at =
      ap (λ x. expression_code scope (expression_view x) at) is
      ∙ ap (λ x. expression_code scope x at) (expression_view-Chain first links)
      ∙ chain-code scope (expression_view first.value) (map link_view links.items) at

  pub depths-Chain :
      (d : ℕ) →
      expression_depths (expression_view e) d ≡
      expression_depths (expression_view first.value) d ++ links_depths (map link_view links.items) d
  depths-Chain d =
      ap (λ x. expression_depths (expression_view x) d) is
      ∙ ap (λ x. expression_depths x d) (expression_view-Chain first links)
      ∙ chain-depths (expression_view first.value) (map link_view links.items) d

-- a further operand of a chain, and those after it
pub links-step :
    (links : List Link) (i : ℕ) (l : Link) → i < length links → l ≡ get_or links i l →
    map link_view (drop i links) ≡
    record { operator = l.operator; operand = expression_view l.operand } ∷ map link_view (drop (i + 1) links)
links-step links i l h e =
    map-step link_view links i l h e ∙ ap (λ x. x ∷ map link_view (drop (i + 1) links)) (link_view-is l)

-- a statement of a block, and those after it
pub block-step :
    (ss : List Statement) (i : ℕ) (s : Statement) → i < length ss → s ≡ get_or ss i s →
    block_view (drop i ss) ≡ next (statement_view s) (block_view (drop (i + 1) ss))
block-step ss i s h e = ap block_view (drop-step ss i s h e)

-- statements with blocks, as slices hold them
pub view-If :
    (s : Statement) (e : Expression) (v : Vec Statement Global) (xs : List Statement) → s ≡ If e v → xs ≡ v.items →
    statement_view s ≡ if_then (expression_view e) (block_view xs)
view-If s e v xs is items =
    ap statement_view is ∙ statement_view-If e v ∙ ap (λ ys. if_then (expression_view e) (block_view ys)) (sym items)

pub view-IfElse :
    (s : Statement) (e : Box Expression Global) (v w : Vec Statement Global) (x : Expression) (xs ys : List Statement) →
    s ≡ IfElse e v w → x ≡ e.value → xs ≡ v.items → ys ≡ w.items →
    statement_view s ≡ if_else (expression_view x) (block_view xs) (block_view ys)
view-IfElse s e v w x xs ys is test first second =
    ap statement_view is ∙ statement_view-IfElse e v w
    ∙ ap (λ y. if_else (expression_view y) (block_view v.items) (block_view w.items)) (sym test)
    ∙ ap (λ zs. if_else (expression_view x) (block_view zs) (block_view w.items)) (sym first)
    ∙ ap (λ zs. if_else (expression_view x) (block_view xs) (block_view zs)) (sym second)

pub view-While :
    (s : Statement) (e : Expression) (v : Vec Statement Global) (xs : List Statement) → s ≡ While e v → xs ≡ v.items →
    statement_view s ≡ while (expression_view e) (block_view xs)
view-While s e v xs is items =
    ap statement_view is ∙ statement_view-While e v ∙ ap (λ ys. while (expression_view e) (block_view ys)) (sym items)

-- ---- what the arms of the emitter have put together

pub unary-emitted :
    (scope : Scope) (e x : Expression) (op : UnaryOperator) (operand : Box Expression Global) → e ≡ Unary op operand →
    x ≡ operand.value → (begun made made' : List Instruction) →
    made ≡ begun ++ expression_code scope (expression_view x) (length begun) → made' ≡ made ++ instruction.Unary op
    ∷ [] →
    made' ≡ begun ++ expression_code scope (expression_view e) (length begun)
unary-emitted scope e x op operand is value begun made made' did last =
    let inner = expression_code scope (expression_view operand.value) (length begun) in
    last ∙ ap (λ c. c ++ instruction.Unary op ∷ []) did
    ∙ ap (λ y. (begun ++ expression_code scope (expression_view y) (length begun)) ++ instruction.Unary op ∷ []) value
    ∙ append_assoc begun inner (instruction.Unary op ∷ [])
    ∙ ap (λ t. begun ++ expression_code scope t (length begun)) (sym (expression_view-Unary op operand))
    ∙ ap (λ y. begun ++ expression_code scope (expression_view y) (length begun)) (sym is)

pub unary-deep :
    (e x : Expression) (op : UnaryOperator) (operand : Box Expression Global) (d : ℕ) → e ≡ Unary op operand →
    x ≡ operand.value → (begun made made' : List ℕ) →
    made ≡ begun ++ expression_depths (expression_view x) d → made' ≡ made ++ (d + 1) ∷ [] →
    made' ≡ begun ++ expression_depths (expression_view e) d
unary-deep e x op operand d is value begun made made' did last =
    last ∙ ap (λ c. c ++ (d + 1) ∷ []) did
    ∙ ap (λ y. (begun ++ expression_depths (expression_view y) d) ++ (d + 1) ∷ []) value
    ∙ append_assoc begun (expression_depths (expression_view operand.value) d) ((d + 1) ∷ [])
    ∙ ap (λ t. begun ++ expression_depths t d) (sym (expression_view-Unary op operand))
    ∙ ap (λ y. begun ++ expression_depths (expression_view y) d) (sym is)

pub chain-emitted :
    (scope : Scope) (e x : Expression) (first : Box Expression Global) (links : Vec Link Global) (ls : List Link) →
    e ≡ Chain first links → x ≡ first.value → ls ≡ links.items → (begun made made' : List Instruction) →
    made ≡ begun ++ expression_code scope (expression_view x) (length begun) →
    length made ≡ length begun + expression_size (expression_view x) →
    made' ≡ made ++ links_code scope (map link_view ls) (length made) →
    made' ≡ begun ++ expression_code scope (expression_view e) (length begun)
chain-emitted scope e x first links ls is value items begun made made' did len last =
    let p = length begun + expression_size (expression_view x) in
    let one = expression_code scope (expression_view x) (length begun) in
    last ∙ ap (λ n. made ++ links_code scope (map link_view ls) n) len
    ∙ ap (λ c. c ++ links_code scope (map link_view ls) p) did
    ∙ append_assoc begun one (links_code scope (map link_view ls) p)
    ∙ ap (λ xs. begun ++ (one ++ links_code scope (map link_view xs) p)) items
    ∙ ap (λ y. begun ++ (expression_code scope (expression_view y) (length begun)
    ++ links_code scope (map link_view links.items) (length begun + expression_size (expression_view y)))) value
    ∙ ap (λ c. begun ++ c) (sym (code-Chain e first links is scope (length begun)))

pub chain-deep :
    (e x : Expression) (first : Box Expression Global) (links : Vec Link Global) (ls : List Link) (d : ℕ) →
    e ≡ Chain first links → x ≡ first.value → ls ≡ links.items → (begun made made' : List ℕ) →
    made ≡ begun ++ expression_depths (expression_view x) d → made' ≡ made ++ links_depths (map link_view ls) d →
    made' ≡ begun ++ expression_depths (expression_view e) d
chain-deep e x first links ls d is value items begun made made' did last =
    let one = expression_depths (expression_view x) d in
    last ∙ ap (λ c. c ++ links_depths (map link_view ls) d) did
    ∙ append_assoc begun one (links_depths (map link_view ls) d)
    ∙ ap (λ xs. begun ++ (one ++ links_depths (map link_view xs) d)) items
    ∙ ap (λ y. begun ++ (expression_depths (expression_view y) d ++ links_depths (map link_view links.items) d)) value
    ∙ ap (λ c. begun ++ c) (sym (depths-Chain e first links is d))
