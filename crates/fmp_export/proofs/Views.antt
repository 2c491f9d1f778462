-- The C of what boxes and vectors hold.
use Rattle.std.proofs.Common.{◌≡◌, ◌∙◌, refl, ap, ℕ, ◌+◌, ◌<◌, List, [], ◌∷◌, ◌++◌, codes, length, drop, get_or, map, Box}
use Rattle.std.specs.declared.alloc.Global.{Global}
use Rattle.std.specs.declared.vec.Vec.{Vec}
use Rattle.fmp_base.specs.declared.operators.UnaryOperator.{UnaryOperator}
use Rattle.fmp_tasklang.specs.declared.trees.Expression.{Expression, Element, Unary, Chain}
use Rattle.fmp_tasklang.specs.declared.trees.Link.{Link}
use Rattle.fmp_tasklang.specs.declared.trees.Operator.{Operator}
use Rattle.fmp_tasklang.specs.declared.trees.Operator.TheVariants as operator
use Rattle.fmp_tasklang.specs.declared.trees.Statement.{Statement}
use Rattle.fmp_tasklang.specs.declared.trees.Word.{Word}
use Rattle.fmp_tasklang.specs.Trees.{ExpressionTree}
use Rattle.fmp_tasklang.specs.Views.{LinkTree, join, chain_tree, expression_view, link_view, statement_view, block_view}
use Rattle.fmp_tasklang.proofs.Views.{expression_view-Element, expression_view-Unary, expression_view-Chain}
use Rattle.fmp_scopes.proofs.ViewTrees.{links-step, block-step}
use Rattle.fmp_export.specs.Expressions.{c_chain, c_expression, joined}
use Rattle.fmp_export.specs.Pieces.{PieceText, element_piece, unary_piece}
use Rattle.fmp_export.specs.Remarks.{c_directive}
use Rattle.fmp_export.specs.Sources.{SourceText}
use Rattle.fmp_export.specs.Statements.{block_end, c_block, c_chained, c_statement, statement_end}
use Rattle.fmp_export.specs.Words.{c_name}

c_join :
    (s : SourceText) (at : ℕ) (op : Operator) (a b : ExpressionTree) →
    c_expression s at (join op a b) ≡ joined op (c_expression s at a) (c_expression s ((c_expression s at a).next) b)
c_join s at (operator.Binary op) a b = refl
c_join s at operator.Both a b = refl
c_join s at operator.Either a b = refl

chain_c :
    (s : SourceText) (at : ℕ) (a : ExpressionTree) (ls : List LinkTree) →
    c_expression s at (chain_tree a ls) ≡ c_chain s (c_expression s at a) ls
chain_c s at a [] = refl
chain_c s at a (l ∷ more) =
    chain_c s at (join l.operator a l.operand) more ∙ ap (λ p. c_chain s p more) (c_join s at l.operator a l.operand)

pub element_is :
    (s : SourceText) (at : ℕ) (w : Box Word Global) (e : Box Expression Global) →
    c_expression s at (expression_view (Element w e)) ≡
    element_piece (c_name w.value.name) (c_expression s at (expression_view e.value))
element_is s at w e = ap (c_expression s at) (expression_view-Element w e)

pub unary_is :
    (s : SourceText) (at : ℕ) (op : UnaryOperator) (e : Box Expression Global) →
    c_expression s at (expression_view (Unary op e)) ≡ unary_piece op (c_expression s at (expression_view e.value))
unary_is s at op e = ap (c_expression s at) (expression_view-Unary op e)

pub chain_is :
    (s : SourceText) (at : ℕ) (first : Box Expression Global) (links : Vec Link Global) →
    c_expression s at (expression_view (Chain first links)) ≡
    c_chain s (c_expression s at (expression_view first.value)) (map link_view links.items)
chain_is s at first links =
    ap (c_expression s at) (expression_view-Chain first links)
    ∙ chain_c s at (expression_view first.value) (map link_view links.items)

-- a further operand of a chain, and those after it
pub chain_step :
    (s : SourceText) (p : PieceText) (links : List Link) (i : ℕ) (l : Link) → i < length links → l ≡ get_or links i l →
    c_chain s p (map link_view (drop i links)) ≡
    c_chain s (joined l.operator p (c_expression s p.next (expression_view l.operand)))
    (map link_view (drop (i + 1) links))
chain_step s p links i l h e = ap (c_chain s p) (links-step links i l h e)

-- a statement of a block, and those after it
pub block_step :
    (s : SourceText) (margin : List ℕ) (at : ℕ) (ss : List Statement) (i : ℕ) (t : Statement) → i < length ss →
    t ≡ get_or ss i t →
    c_block s margin at (block_view (drop i ss)) ≡
    (c_directive s at ++ (margin ++ c_statement s margin at (statement_view t)))
    ++ c_block s margin (statement_end s at (statement_view t)) (block_view (drop (i + 1) ss))
block_step s margin at ss i t h e = ap (c_block s margin at) (block-step ss i t h e)

pub chained_step :
    (s : SourceText) (margin : List ℕ) (at : ℕ) (ss : List Statement) (i : ℕ) (t : Statement) → i < length ss →
    t ≡ get_or ss i t →
    c_chained s margin at (block_view (drop i ss)) ≡
    (margin ++ (codes "} else " ++ c_statement s margin at (statement_view t)))
    ++ c_chained s margin (statement_end s at (statement_view t)) (block_view (drop (i + 1) ss))
chained_step s margin at ss i t h e = ap (c_chained s margin at) (block-step ss i t h e)

pub end_step :
    (s : SourceText) (at : ℕ) (ss : List Statement) (i : ℕ) (t : Statement) → i < length ss → t ≡ get_or ss i t →
    block_end s at (block_view (drop i ss)) ≡
    block_end s (statement_end s at (statement_view t)) (block_view (drop (i + 1) ss))
end_step s at ss i t h e = ap (block_end s at) (block-step ss i t h e)
