-- What the further operands of a chain of operators add to a tree whose code and depths are known.
use Rattle.std.specs.Prelude.{ℕ, ◌+◌, max, pos, List, [], ◌∷◌, ◌++◌}
use Rattle.fmp_tasklang.specs.declared.trees.Operator.{Operator}
use Rattle.fmp_tasklang.specs.declared.trees.Operator.TheVariants as operator
use Rattle.fmp_tasklang.specs.Trees.{ExpressionTree}
use Rattle.fmp_tasklang.specs.Scopes.{Scope}
use Rattle.fmp_tasklang.specs.Views.{LinkTree}
use Rattle.fmp_instructions.specs.declared.instructions.Instruction.{Instruction}
use Rattle.fmp_instructions.specs.declared.instructions.Instruction.TheVariants.{Push, Truth, Binary, Jump, JumpIfZero}
use Rattle.fmp_scopes.specs.Depths.{expression_depth}
use Rattle.fmp_scopes.specs.DepthTables.{expression_depths}
use Rattle.fmp_scopes.specs.Naming.{NameUse, expression_uses}
use Rattle.fmp_scopes.specs.Scheme.{expression_code}
use Rattle.fmp_scopes.specs.Sizes.{expression_size}

-- the instructions of an operator itself
abbrev pub operator_size : Operator → ℕ
operator_size (operator.Binary op) = 1
operator_size operator.Both = 4
operator_size operator.Either = 4

-- how many operands stand below those of the second operand
abbrev pub operator_rise : Operator → ℕ
operator_rise (operator.Binary op) = 1
operator_rise operator.Both = 0
operator_rise operator.Either = 0

abbrev pub link_size : LinkTree → ℕ
link_size l = expression_size l.operand + operator_size l.operator

abbrev pub links_size : List LinkTree → ℕ
links_size [] = 0
links_size (l ∷ ls) = link_size l + links_size ls

abbrev pub link_depth : LinkTree → ℕ
link_depth l = expression_depth l.operand + operator_rise l.operator

abbrev pub links_depth : List LinkTree → ℕ
links_depth [] = 0
links_depth (l ∷ ls) = max (link_depth l) (links_depth ls)

abbrev pub links_uses : List LinkTree → List NameUse
links_uses [] = []
links_uses (l ∷ ls) = expression_uses l.operand ++ links_uses ls

-- the instructions of the second operand e and of the operator, from this place on
abbrev pub operator_code : Scope → Operator → ExpressionTree → (at : ℕ) → List Instruction
operator_code scope (operator.Binary op) e at = expression_code scope e at ++ Binary op ∷ []
operator_code scope operator.Both e at =
    let second = at + 1 in
    let no = second + expression_size e + 2 in
    JumpIfZero no ∷ (expression_code scope e second ++ Truth ∷ Jump (no + 1) ∷ Push (pos 0) ∷ [])
operator_code scope operator.Either e at =
    let second = at + 3 in
    JumpIfZero second ∷ Push (pos 1) ∷ Jump (second + expression_size e + 1) ∷
    (expression_code scope e second ++ Truth ∷ [])

abbrev pub links_code : Scope → List LinkTree → (at : ℕ) → List Instruction
links_code scope [] at = []
links_code scope (l ∷ ls) at = operator_code scope l.operator l.operand at ++ links_code scope ls (at + link_size l)

-- their depths, where d operands stand before the first operand
abbrev pub operator_depths : Operator → ExpressionTree → (d : ℕ) → List ℕ
operator_depths (operator.Binary op) e d = expression_depths e (d + 1) ++ (d + 2) ∷ []
operator_depths operator.Both e d = (d + 1) ∷ (expression_depths e d ++ (d + 1) ∷ (d + 1) ∷ d ∷ [])
operator_depths operator.Either e d = (d + 1) ∷ d ∷ (d + 1) ∷ (expression_depths e d ++ (d + 1) ∷ [])

abbrev pub links_depths : List LinkTree → (d : ℕ) → List ℕ
links_depths [] d = []
links_depths (l ∷ ls) d = operator_depths l.operator l.operand d ++ links_depths ls d

-- the instructions of a condition, followed by a jump over this many instructions if it is 0
abbrev pub test_code : Scope → ExpressionTree → (at over : ℕ) → List Instruction
test_code scope e at over = expression_code scope e at ++ JumpIfZero (at + expression_size e + 1 + over) ∷ []
