-- The view of a tree from the views of what its boxes and vectors hold.
use Rattle.std.proofs.Common.{◌≡◌, ◌∙◌, refl, ap, ap₂, rules, map, Box, List, [], ◌∷◌, ◌++◌}
use Rattle.std.proofs.lemmas.List.{map-append}
use Rattle.std.specs.declared.alloc.Global.{Global}
use Rattle.std.specs.declared.vec.Vec.{Vec}
use Rattle.fmp_base.specs.declared.operators.UnaryOperator.{UnaryOperator}
use Rattle.fmp_tasklang.specs.declared.trees.Expression.{Expression, Name, Element, Unary, Chain}
use Rattle.fmp_tasklang.specs.declared.trees.Expression as expression
use Rattle.fmp_tasklang.specs.declared.trees.Link.{Link}
use Rattle.fmp_tasklang.specs.declared.trees.Statement.{Statement, If, IfElse, While, Row_of-Statement}
use Rattle.fmp_tasklang.specs.declared.trees.Statement.{end_of-Statement, more_of-Statement, items-the_row-Statement}
use Rattle.fmp_tasklang.specs.declared.trees.Statement.{the_lemmas}
use Rattle.fmp_tasklang.specs.declared.trees.Word.{Word}
use Rattle.fmp_tasklang.specs.Trees.{named, element, unary, if_then, if_else, while, next}
use Rattle.fmp_tasklang.specs.Views.{chain_tree, expression_view, link_view, statement_view, row_view, block_view}
use Rattle.fmp_tasklang.specs.Blocks.{block_of}
use Rattle.fmp_tasklang.specs.Reading as reading
use Rattle.fmp_tasklang.specs.Laws.{ViewsOfParts}

pub expression_view-Name : (w : Word) → expression_view (Name w) ≡ named w
expression_view-Name w = search (rules, expression.the_lemmas)

pub expression_view-Element :
    (w : Box Word Global) (e : Box Expression Global) →
    expression_view (Element w e) ≡ element w.value (expression_view e.value)
expression_view-Element w e = search (rules, expression.the_lemmas)

pub expression_view-Unary :
    (op : UnaryOperator) (e : Box Expression Global) →
    expression_view (Unary op e) ≡ unary op (expression_view e.value)
expression_view-Unary op e = search (rules, expression.the_lemmas)

pub expression_view-Chain :
    (first : Box Expression Global) (links : Vec Link Global) →
    expression_view (Chain first links) ≡ chain_tree (expression_view first.value) (map link_view links.items)
expression_view-Chain first links = search (rules, expression.the_lemmas)

pub link_view-is : (l : Link) → link_view l ≡ record { operator = l.operator; operand = expression_view l.operand }
link_view-is l = search (rules, expression.the_lemmas)

-- links that grow at their end
pub links_push :
    (links : List Link) (l : Link) →
    map link_view (links ++ l ∷ []) ≡ map link_view links ++ record {
      operator = l.operator;
      operand = expression_view l.operand;
    } ∷ []
links_push links l = map-append link_view links (l ∷ []) ∙ ap (λ z. map link_view links ++ z ∷ []) (link_view-is l)

-- the statements of a vector, as a block
pub block_view-is : (ss : List Statement) → block_view ss ≡ block_of (map statement_view ss)
block_view-is [] = refl
block_view-is (s ∷ ss) = ap (next (statement_view s)) (block_view-is ss)

pub row_view-items :
    (m : _) (s : Row_of-Statement m) → row_view s ≡ block_view (items-the_row-Statement m s)
row_view-items m end_of-Statement = refl
row_view-items m (more_of-Statement s rest) = ap (next (statement_view s)) (row_view-items _ rest)

pub statement_view-If :
    (e : Expression) (s : Vec Statement Global) →
    statement_view (If e s) ≡ if_then (expression_view e) (block_view s.items)
statement_view-If e s = search (rules, the_lemmas, row_view-items)

pub statement_view-IfElse :
    (e : Box Expression Global) (s r : Vec Statement Global) →
    statement_view (IfElse e s r) ≡ if_else (expression_view e.value) (block_view s.items) (block_view r.items)
statement_view-IfElse e s r = search (rules, the_lemmas, row_view-items)

pub statement_view-While :
    (e : Expression) (s : Vec Statement Global) →
    statement_view (While e s) ≡ while (expression_view e) (block_view s.items)
statement_view-While e s = search (rules, the_lemmas, row_view-items)

-- blocks as the readers see them
pub while_view : (e : Expression) (s : Vec Statement Global) → statement_view (While e s)
    ≡ while (expression_view e) (reading.block_view s)
while_view e s = statement_view-While e s ∙ ap (while (expression_view e)) (block_view-is s.items)

pub if_view : (e : Expression) (s : Vec Statement Global) → statement_view (If e s)
    ≡ if_then (expression_view e) (reading.block_view s)
if_view e s = statement_view-If e s ∙ ap (if_then (expression_view e)) (block_view-is s.items)

pub if_else_view :
    (e : Box Expression Global) (s r : Vec Statement Global) →
    statement_view (IfElse e s r) ≡ if_else (expression_view e.value) (reading.block_view s) (reading.block_view r)
if_else_view e s r = statement_view-IfElse e s r ∙ ap₂ (if_else (expression_view e.value)) (block_view-is s.items)
    (block_view-is r.items)

pub views_of_parts : ViewsOfParts
views_of_parts =
    record {
      array_element = expression_view-Element;
      unary_operator = expression_view-Unary;
      chain = expression_view-Chain;
      link = link_view-is;
      if_statement = statement_view-If;
      if_else_statement = statement_view-IfElse;
      while_statement = statement_view-While;
    }
