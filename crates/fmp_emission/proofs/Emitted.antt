-- What one turn of a loop over a list has emitted.
use Rattle.std.proofs.Common.{◌≡◌, ℕ, ◌+◌, List, [], ◌∷◌, ◌++◌, length, Box, sym, ap, ◌∙◌, append_assoc}
use Rattle.std.specs.declared.alloc.Global.{Global}
use Rattle.fmp_tasklang.specs.declared.trees.Expression.{Expression, Element}
use Rattle.fmp_tasklang.specs.declared.trees.Word.{Word}
use Rattle.fmp_tasklang.specs.Trees.{ExpressionTree, StatementTree, Block, next}
use Rattle.fmp_tasklang.specs.Scopes.{Scope, meaning_of}
use Rattle.fmp_tasklang.specs.Views.{LinkTree, expression_view}
use Rattle.fmp_tasklang.proofs.Views.{expression_view-Element}
use Rattle.fmp_instructions.specs.declared.instructions.Instruction.{Instruction}
use Rattle.fmp_scopes.specs.Chains.{link_size, operator_code, links_code, operator_depths, links_depths}
use Rattle.fmp_scopes.specs.DepthTables.{expression_depths, arguments_depths, statement_depths, block_depths}
use Rattle.fmp_scopes.specs.Scheme.{load_element, expression_code, arguments_code, statement_code, block_code}
use Rattle.fmp_scopes.specs.Sizes.{expression_size, statement_size}

-- what is emitted next comes off what is left
pub next-emitted :
    {B : Type 0} (made made' one rest whole : List B) → made ++ (one ++ rest) ≡ whole → made' ≡ made ++ one →
    made' ++ rest ≡ whole
next-emitted made made' one rest whole before did =
    ap (λ c. c ++ rest) did ∙ append_assoc made one rest ∙ before

pub block-emitted :
    (scope : Scope) (made made' whole : List Instruction) (b more : Block) (s : StatementTree) (again exit : ℕ) →
    b ≡ next s more → made ++ block_code scope b (length made) again exit ≡ whole →
    made' ≡ made ++ statement_code scope s (length made) again exit → length made' ≡ length made + statement_size s →
    made' ++ block_code scope more (length made') again exit ≡ whole
block-emitted scope made made' whole b more s again exit e before did len =
    ap (λ n. made' ++ block_code scope more n again exit) len
    ∙ next-emitted made made' (statement_code scope s (length made) again exit)
    (block_code scope more (length made + statement_size s) again exit) whole
    (sym (ap (λ x. made ++ block_code scope x (length made) again exit) e) ∙ before) did

pub block-deep :
    (made made' whole : List ℕ) (b more : Block) (s : StatementTree) → b ≡ next s more → made ++ block_depths b
    ≡ whole →
    made' ≡ made ++ statement_depths s → made' ++ block_depths more ≡ whole
block-deep made made' whole b more s e before did =
    next-emitted made made' (statement_depths s) (block_depths more) whole
    (sym (ap (λ x. made ++ block_depths x) e) ∙ before) did

pub links-emitted :
    (scope : Scope) (made made' whole : List Instruction) (ls more : List LinkTree) (l : LinkTree) → ls ≡ l ∷ more →
    made ++ links_code scope ls (length made) ≡ whole →
    made' ≡ made ++ operator_code scope l.operator l.operand (length made) → length made' ≡ length made + link_size l →
    made' ++ links_code scope more (length made') ≡ whole
links-emitted scope made made' whole ls more l e before did len =
    ap (λ n. made' ++ links_code scope more n) len
    ∙ next-emitted made made' (operator_code scope l.operator l.operand (length made))
    (links_code scope more (length made + link_size l)) whole
    (sym (ap (λ x. made ++ links_code scope x (length made)) e) ∙ before) did

pub links-deep :
    (made made' whole : List ℕ) (ls more : List LinkTree) (l : LinkTree) (d : ℕ) → ls ≡ l ∷ more →
    made ++ links_depths ls d ≡ whole → made' ≡ made ++ operator_depths l.operator l.operand d →
    made' ++ links_depths more d ≡ whole
links-deep made made' whole ls more l d e before did =
    next-emitted made made' (operator_depths l.operator l.operand d) (links_depths more d) whole
    (sym (ap (λ x. made ++ links_depths x d) e) ∙ before) did

pub arguments-emitted :
    (scope : Scope) (made made' whole : List Instruction) (es more : List ExpressionTree) (a : ExpressionTree) → es
    ≡ a ∷ more →
    made ++ arguments_code scope es (length made) ≡ whole →
    made' ≡ made ++ expression_code scope a (length made) → length made' ≡ length made + expression_size a →
    made' ++ arguments_code scope more (length made') ≡ whole
arguments-emitted scope made made' whole es more a e before did len =
    ap (λ n. made' ++ arguments_code scope more n) len
    ∙ next-emitted made made' (expression_code scope a (length made))
    (arguments_code scope more (length made + expression_size a)) whole
    (sym (ap (λ x. made ++ arguments_code scope x (length made)) e) ∙ before) did

pub arguments-deep :
    (made made' whole : List ℕ) (es more : List ExpressionTree) (a : ExpressionTree) (d : ℕ) → es ≡ a ∷ more →
    made ++ arguments_depths es d ≡ whole → made' ≡ made ++ expression_depths a d →
    made' ++ arguments_depths more (d + 1) ≡ whole
arguments-deep made made' whole es more a d e before did =
    next-emitted made made' (expression_depths a d) (arguments_depths more (d + 1)) whole
    (sym (ap (λ x. made ++ arguments_depths x d) e) ∙ before) did

-- ---- elements of arrays

-- the array is named by the word in the box
pub load-named :
    (scope : Scope) (i : Instruction) (v : Word) (w : Box Word Global) → v ≡ w.value →
    i ≡ load_element scope (meaning_of scope v.name) → i ≡ load_element scope (meaning_of scope w.value.name)
load-named scope i v w same loads = loads ∙ ap (λ (z : Word). load_element scope (meaning_of scope z.name)) same

pub element-emitted :
    (scope : Scope) (e x : Expression) (w : Box Word Global) (index : Box Expression Global) (i : Instruction) → e
    ≡ Element w index →
    x ≡ index.value → i ≡ load_element scope (meaning_of scope w.value.name) → (begun made made' : List Instruction) →
    made ≡ begun ++ expression_code scope (expression_view x) (length begun) → made' ≡ made ++ i ∷ [] →
    made' ≡ begun ++ expression_code scope (expression_view e) (length begun)
element-emitted scope e x w index i is value loads begun made made' did last =
    let inner = expression_code scope (expression_view index.value) (length begun) in
    let load = load_element scope (meaning_of scope w.value.name) in
    last ∙ ap (λ c. c ++ i ∷ []) did
    ∙ ap (λ y. (begun ++ expression_code scope (expression_view y) (length begun)) ++ i ∷ []) value
    ∙ append_assoc begun inner (i ∷ [])
    ∙ ap (λ (y : Instruction). begun ++ (inner ++ y ∷ [])) loads
    ∙ ap (λ t. begun ++ expression_code scope t (length begun)) (sym (expression_view-Element w index))
    ∙ ap (λ y. begun ++ expression_code scope (expression_view y) (length begun)) (sym is)

pub element-deep :
    (e x : Expression) (w : Box Word Global) (index : Box Expression Global) (d : ℕ) → e ≡ Element w index →
    x ≡ index.value → (begun made made' : List ℕ) →
    made ≡ begun ++ expression_depths (expression_view x) d → made' ≡ made ++ (d + 1) ∷ [] →
    made' ≡ begun ++ expression_depths (expression_view e) d
element-deep e x w index d is value begun made made' did last =
    last ∙ ap (λ c. c ++ (d + 1) ∷ []) did
    ∙ ap (λ y. (begun ++ expression_depths (expression_view y) d) ++ (d + 1) ∷ []) value
    ∙ append_assoc begun (expression_depths (expression_view index.value) d) ((d + 1) ∷ [])
    ∙ ap (λ t. begun ++ expression_depths t d) (sym (expression_view-Element w index))
    ∙ ap (λ y. begun ++ expression_depths (expression_view y) d) (sym is)
