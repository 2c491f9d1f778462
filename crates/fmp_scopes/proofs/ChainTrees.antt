-- A chain is its first operand and what its further operands add.
use Rattle.std.proofs.Common.{◌≡◌, ℕ, ◌+◌, max, List, [], ◌∷◌, ◌++◌, refl, sym, ap, ◌∙◌, arith, append_assoc}
use Rattle.fmp_tasklang.specs.declared.trees.Operator.{Operator}
use Rattle.fmp_tasklang.specs.declared.trees.Operator.TheVariants as operator
use Rattle.fmp_tasklang.specs.Trees.{ExpressionTree}
use Rattle.fmp_tasklang.specs.Scopes.{Scope}
use Rattle.fmp_tasklang.specs.Views.{LinkTree, join, chain_tree}
use Rattle.fmp_scopes.specs.Chains.{operator_size, operator_rise, link_size, links_size, links_depth, links_uses}
use Rattle.fmp_scopes.specs.Chains.{operator_code, links_code, operator_depths, links_depths}
use Rattle.fmp_scopes.specs.Depths.{expression_depth}
use Rattle.fmp_scopes.specs.DepthTables.{expression_depths}
use Rattle.fmp_scopes.specs.Naming.{expression_uses}
use Rattle.fmp_scopes.specs.Scheme.{expression_code}
use Rattle.fmp_scopes.specs.Sizes.{expression_size}

append-nil : {A : Type 0} (xs : List A) → xs ++ [] ≡ xs
append-nil [] = refl
append-nil (x ∷ xs) = ap (λ ys. x ∷ ys) (append-nil xs)

join-size : (op : Operator) (a b : ExpressionTree) → expression_size (join op a b) ≡ expression_size a
    + (expression_size b + operator_size op)
join-size (operator.Binary op) a b = omega arith
join-size operator.Both a b = omega arith
join-size operator.Either a b = omega arith

pub chain-size :
    (a : ExpressionTree) (ls : List LinkTree) → expression_size (chain_tree a ls) ≡ expression_size a + links_size ls
chain-size a [] = omega arith
chain-size a (l ∷ ls) =
    omega (arith, chain-size (join l.operator a l.operand) ls, join-size l.operator a l.operand)

join-depth :
    (op : Operator) (a b : ExpressionTree) →
    expression_depth (join op a b) ≡ max (expression_depth a) (expression_depth b + operator_rise op)
join-depth (operator.Binary op) a b = omega arith
join-depth operator.Both a b = omega arith
join-depth operator.Either a b = omega arith

pub chain-depth :
    (a : ExpressionTree) (ls : List LinkTree) →
    expression_depth (chain_tree a ls) ≡ max (expression_depth a) (links_depth ls)
chain-depth a [] = omega arith
chain-depth a (l ∷ ls) =
    omega (arith, chain-depth (join l.operator a l.operand) ls, join-depth l.operator a l.operand)

join-uses : (op : Operator) (a b : ExpressionTree) → expression_uses (join op a b) ≡ expression_uses a
    ++ expression_uses b
join-uses (operator.Binary op) a b = refl
join-uses operator.Both a b = refl
join-uses operator.Either a b = refl

pub chain-uses :
    (a : ExpressionTree) (ls : List LinkTree) → expression_uses (chain_tree a ls) ≡ expression_uses a ++ links_uses ls
chain-uses a [] = sym (append-nil (expression_uses a))
chain-uses a (l ∷ ls) =
    chain-uses (join l.operator a l.operand) ls
    ∙ ap (λ us. us ++ links_uses ls) (join-uses l.operator a l.operand)
    ∙ append_assoc (expression_uses a) (expression_uses l.operand) (links_uses ls)

join-code :
    (scope : Scope) (a b : ExpressionTree) (op : Operator) (at : ℕ) →
    expression_code scope (join op a b) at ≡ expression_code scope a at
    ++ operator_code scope op b (at + expression_size a)
join-code scope a b (operator.Binary op) at = refl
join-code scope a b operator.Both at = refl
join-code scope a b operator.Either at = refl

pub chain-code :
    (scope : Scope) (a : ExpressionTree) (ls : List LinkTree) (at : ℕ) →
    expression_code scope (chain_tree a ls) at ≡
    expression_code scope a at ++ links_code scope ls (at + expression_size a)
chain-code scope a [] at = sym (append-nil (expression_code scope a at))
chain-code scope a (l ∷ ls) at =
    let p = at + expression_size a in
    let e : at + expression_size (join l.operator a l.operand) ≡ p + link_size l =
    omega (arith, join-size l.operator a l.operand) in
    chain-code scope (join l.operator a l.operand) ls at
    ∙ ap (λ q. expression_code scope (join l.operator a l.operand) at ++ links_code scope ls q) e
    ∙ ap (λ is. is ++ links_code scope ls (p + link_size l)) (join-code scope a l.operand l.operator at)
    ∙ append_assoc (expression_code scope a at) (operator_code scope l.operator l.operand p)
    (links_code scope ls (p + link_size l))

join-depths :
    (a b : ExpressionTree) (op : Operator) (d : ℕ) →
    expression_depths (join op a b) d ≡ expression_depths a d ++ operator_depths op b d
join-depths a b (operator.Binary op) d = refl
join-depths a b operator.Both d = refl
join-depths a b operator.Either d = refl

pub chain-depths :
    (a : ExpressionTree) (ls : List LinkTree) (d : ℕ) →
    expression_depths (chain_tree a ls) d ≡ expression_depths a d ++ links_depths ls d
chain-depths a [] d = sym (append-nil (expression_depths a d))
chain-depths a (l ∷ ls) d =
    chain-depths (join l.operator a l.operand) ls d
    ∙ ap (λ ds. ds ++ links_depths ls d) (join-depths a l.operand l.operator d)
    ∙ append_assoc (expression_depths a d) (operator_depths l.operator l.operand d) (links_depths ls d)
