-- The numbers of the bodies of a text have 32 bits.
use Rattle.std.proofs.Common.{ℕ, ℤ, Bool, true, false, List, [], ◌∷◌, length, slice_get, Option, Some, None}
use Rattle.std.proofs.Common.{option_and_then, FitsSigned, sym, subst}
use Rattle.std.specs.Int.{w32}
use Rattle.std.specs.List.{AllByRecursion}
use Rattle.fmp_lex.specs.declared.token.TokenKind.{TokenKind}
use Rattle.fmp_lex.specs.declared.token.TokenKind.TheVariants as kind
use Rattle.fmp_base.specs.declared.words.Keyword.TheVariants as keyword
use Rattle.fmp_lex.specs.Forms.{put}
use Rattle.fmp_lex.specs.Reading.{kinds_of}
use Rattle.fmp_cfgparse.proofs.KnownTokens.{IsKnown, IsKnownAt, known_at, cuts_known}
use Rattle.fmp_cfgparse.proofs.KnownTrees.{code_fits as constant_fits}
use Rattle.fmp_tasklang.specs.declared.forms.CallPart.{CallPart}
use Rattle.fmp_tasklang.specs.declared.forms.CallPart.TheVariants as part
use Rattle.fmp_tasklang.specs.declared.trees.Operator.{Operator}
use Rattle.fmp_tasklang.specs.declared.trees.Operator.TheVariants as operator
use Rattle.fmp_tasklang.specs.declared.trees.Word.{Word}
use Rattle.fmp_tasklang.specs.Blocks.{block_of, choice}
use Rattle.fmp_tasklang.specs.Calls.{call_parts, ArgumentTree, value, out, values_of, Called, call_tree, OnePart, Parts}
use Rattle.fmp_tasklang.specs.Calls.{OneCall}
use Rattle.fmp_tasklang.specs.Expressions.{token_number, reference, IsOperand, a_number, a_name, a_group, a_unary}
use Rattle.fmp_tasklang.specs.Expressions.{IsIndex, no_index, an_index, IsExpression, an_operand, a_chain, AreLinks}
use Rattle.fmp_tasklang.specs.Expressions.{no_link, a_link}
use Rattle.fmp_tasklang.specs.Grammar.{Bodies}
use Rattle.fmp_tasklang.specs.Statements.{jump_of, IsStatement, an_assignment, an_element_assignment, a_call, a_jump}
use Rattle.fmp_tasklang.specs.Statements.{an_if, a_while, IsIf, if_chosen, IsElse, no_else, an_else, IsOther, a_block}
use Rattle.fmp_tasklang.specs.Statements.{another_if, IsBlock, braces, AreStatements, no_statement, a_statement}
use Rattle.fmp_tasklang.specs.Trees.{ExpressionTree, number, named, element, unary, binary, both, either, StatementTree}
use Rattle.fmp_tasklang.specs.Trees.{assign, assign_element, service_call, if_then, if_else, while, break, continue}
use Rattle.fmp_tasklang.specs.Trees.{return, Block, empty, next, BodyTree}
use Rattle.fmp_tasklang.specs.Views.{LinkTree, join, chain_tree}
use Rattle.fmp_image.specs.Building.{ReadTasks}

-- ---- trees whose numbers have 32 bits

abbrev pub ExpressionHasWords : ExpressionTree → Type 0
ExpressionHasWords (number k) = FitsSigned w32 k
ExpressionHasWords (named w) = Unit {0}
ExpressionHasWords (element w e) = ExpressionHasWords e
ExpressionHasWords (unary op e) = ExpressionHasWords e
ExpressionHasWords (binary op a b) = ExpressionHasWords a × ExpressionHasWords b
ExpressionHasWords (both a b) = ExpressionHasWords a × ExpressionHasWords b
ExpressionHasWords (either a b) = ExpressionHasWords a × ExpressionHasWords b

abbrev mutual
  pub StatementHasWords : StatementTree → Type 0
  StatementHasWords (assign w e) = ExpressionHasWords e
  StatementHasWords (assign_element w i e) = ExpressionHasWords i × ExpressionHasWords e
  StatementHasWords (service_call c) = AllByRecursion ExpressionHasWords c.arguments
  StatementHasWords (if_then e s) = ExpressionHasWords e × BlockHasWords s
  StatementHasWords (if_else e s r) = ExpressionHasWords e × (BlockHasWords s × BlockHasWords r)
  StatementHasWords (while e s) = ExpressionHasWords e × BlockHasWords s
  StatementHasWords break = Unit {0}
  StatementHasWords continue = Unit {0}
  StatementHasWords return = Unit {0}

  pub BlockHasWords : Block → Type 0
  BlockHasWords empty = Unit {0}
  BlockHasWords (next s rest) = StatementHasWords s × BlockHasWords rest

abbrev pub BodyHasWords : BodyTree → Type 0
BodyHasWords b = BlockHasWords b.statements

-- ---- expressions

abbrev LinkHasWords : LinkTree → Type 0
LinkHasWords l = ExpressionHasWords l.operand

join_words : (op : Operator) (a b : ExpressionTree) → ExpressionHasWords a → ExpressionHasWords b
    → ExpressionHasWords (join op a b)
join_words (operator.Binary op) a b x y = (x, y)
join_words operator.Both a b x y = (x, y)
join_words operator.Either a b x y = (x, y)

chain_words : (a : ExpressionTree) (ls : List LinkTree) → ExpressionHasWords a → AllByRecursion LinkHasWords ls
    → ExpressionHasWords (chain_tree a ls)
chain_words a [] x h = x
chain_words a (l ∷ more) x h = chain_words (join l.operator a l.operand) more
    (join_words l.operator a l.operand x h.0) h.1

abbrev NumberFits : Option ℤ → Type 0
NumberFits None = Unit {0}
NumberFits (Some n) = FitsSigned w32 n

known_number : (t : TokenKind) → IsKnown t → NumberFits (token_number t)
known_number (kind.Number n) h = h
known_number (kind.Constant c) h = constant_fits c
known_number _ h = tt

number_at : (o : Option TokenKind) → IsKnownAt o → NumberFits (option_and_then token_number o)
number_at None h = tt
number_at (Some t) h = known_number t h

abbrev IndexHasWords : Option ExpressionTree → Type 0
IndexHasWords None = Unit {0}
IndexHasWords (Some e) = ExpressionHasWords e

reference_words : (w : Word) (index : Option ExpressionTree) → IndexHasWords index
    → ExpressionHasWords (reference w index)
reference_words w None h = tt
reference_words w (Some e) h = h

abbrev JumpHasWords : Option StatementTree → Type 0
JumpHasWords None = Unit {0}
JumpHasWords (Some s) = StatementHasWords s

jump_words : (loop : Bool) (t : TokenKind) → JumpHasWords (jump_of loop t)
jump_words true (kind.Keyword keyword.Break) = tt
jump_words true (kind.Keyword keyword.Continue) = tt
jump_words true (kind.Keyword keyword.Return) = tt
jump_words false (kind.Keyword keyword.Return) = tt
jump_words _ _ = tt

token_jump : (loop : Bool) (o : Option TokenKind) → JumpHasWords (option_and_then (jump_of loop) o)
token_jump loop None = tt
token_jump loop (Some t) = jump_words loop t

abbrev ElseHasWords : Option Block → Type 0
ElseHasWords None = Unit {0}
ElseHasWords (Some b) = BlockHasWords b

choice_words :
    (e : ExpressionTree) (body : Block) (other : Option Block) → ExpressionHasWords e → BlockHasWords body
    → ElseHasWords other →
    StatementHasWords (choice e body other)
choice_words e body None test first second = (test, first)
choice_words e body (Some b) test first second = (test, (first, second))

module _ (ts : List TokenKind) (limit : ℕ) (known : AllByRecursion IsKnown ts) where
  mutual
    operand_words : {d i : ℕ} {e : ExpressionTree} {j : ℕ} → IsOperand ts limit d i e j → ExpressionHasWords e
    operand_words {i = i} (a_number x) = subst NumberFits x.0 (number_at (slice_get ts i) (known_at ts i known))
    operand_words (a_name {w = w} {index = index} x bracketed is) =
        subst ExpressionHasWords (sym is) (reference_words w index (index_words bracketed))
    operand_words (a_group allows left x right) = expression_words x
    operand_words (a_unary allows op x) = operand_words x

    index_words : {d i : ℕ} {index : Option ExpressionTree} {j : ℕ} → IsIndex ts limit d i index j → IndexHasWords index
    index_words no_index = tt
    index_words (an_index allows left x right) = expression_words x

    expression_words : {d l i : ℕ} {e : ExpressionTree} {j : ℕ} → IsExpression ts limit d l i e j → ExpressionHasWords e
    expression_words (an_operand tightest x) = operand_words x
    expression_words (a_chain {first = first} {links = links} level x rest is) =
        subst ExpressionHasWords (sym is) (chain_words first links (expression_words x) (links_words rest))

    links_words : {d m i : ℕ} {ls : List LinkTree} {j : ℕ} → AreLinks ts limit d m i ls j
        → AllByRecursion LinkHasWords ls
    links_words no_link = tt
    links_words (a_link op x rest) = (expression_words x, links_words rest)

  -- ---- calls

  part_words :
      (d : ℕ) (p : CallPart) (a : Option ArgumentTree) (more : List ArgumentTree) (i k : ℕ)
      → OnePart d p ts limit i a k →
      AllByRecursion ExpressionHasWords (values_of more) → AllByRecursion ExpressionHasWords (values_of (put a more))
  part_words d (part.Mark m) None more i k x h = h
  part_words d (part.Mark m) (Some (value e)) more i k x h = absurd x
  part_words d (part.Mark m) (Some (out w)) more i k x h = absurd x
  part_words d (part.Value m) None more i k x h = absurd x
  part_words d (part.Value m) (Some (value e)) more i k x h = (expression_words x.1, h)
  part_words d (part.Value m) (Some (out w)) more i k x h = absurd x
  part_words d (part.Out m) None more i k x h = absurd x
  part_words d (part.Out m) (Some (value e)) more i k x h = absurd x
  part_words d (part.Out m) (Some (out w)) more i k x h = h

  parts_words :
      (d : ℕ) (ps : List CallPart) (i : ℕ) (args : List ArgumentTree) (j : ℕ) → Parts d ps ts limit i args j →
      AllByRecursion ExpressionHasWords (values_of args)
  parts_words d [] i args j x = subst (λ (a : List ArgumentTree). AllByRecursion ExpressionHasWords (values_of a))
      (sym x.0) tt
  parts_words d (p ∷ ps) i args j x =
      subst (λ (a : List ArgumentTree). AllByRecursion ExpressionHasWords (values_of a)) (sym x.2)
      (part_words d p x.0 x.1 i x.3 x.4 (parts_words d ps x.3 x.1 j x.5))

  call_words :
      (d : ℕ) (result : Option Word) (c : Called) (i j : ℕ) → OneCall d ts limit i c j →
      StatementHasWords (service_call (call_tree result c))
  call_words d result c i j x =
      subst (λ (z : Called). AllByRecursion ExpressionHasWords z.arguments) (sym x.1)
      (parts_words d (call_parts c.service) x.2 x.0 j x.4)

  -- ---- statements

  mutual
    statement_words : {d : ℕ} {loop : Bool} {i : ℕ} {s : StatementTree} {j : ℕ} → IsStatement ts limit d loop i s j
        → StatementHasWords s
    statement_words (an_assignment a r e semi) = expression_words e
    statement_words (an_element_assignment a w bracketed equals x semi) =
        (expression_words bracketed.1.2.1, expression_words x)
    statement_words {d = d} (a_call r a c b res call semi is) = subst StatementHasWords (sym is)
        (call_words d r c a b call)
    statement_words {loop = loop} {i = i} (a_jump x semi) = subst JumpHasWords x.0 (token_jump loop (slice_get ts i))
    statement_words (an_if s) = if_words s
    statement_words (a_while x test body) = (expression_words test.2.1, block_words body)

    if_words : {d : ℕ} {loop : Bool} {i : ℕ} {s : StatementTree} {j : ℕ} → IsIf ts limit d loop i s j
        → StatementHasWords s
    if_words (if_chosen {e = e} {body = body} {other = other} x test block els is) =
        subst StatementHasWords (sym is) (choice_words e body other (expression_words test.2.1) (block_words block)
        (else_words els))

    else_words : {d : ℕ} {loop : Bool} {i : ℕ} {o : Option Block} {j : ℕ} → IsElse ts limit d loop i o j
        → ElseHasWords o
    else_words no_else = tt
    else_words (an_else x other) = other_words other

    other_words : {d : ℕ} {loop : Bool} {i : ℕ} {b : Block} {j : ℕ} → IsOther ts limit d loop i b j → BlockHasWords b
    other_words (a_block b) = block_words b
    other_words (another_if allows f is) = subst BlockHasWords (sym is) (if_words f, tt)

    block_words : {d : ℕ} {loop : Bool} {i : ℕ} {b : Block} {j : ℕ} → IsBlock ts limit d loop i b j → BlockHasWords b
    block_words (braces allows left ss right is) = subst BlockHasWords (sym is) (statements_words ss)

    statements_words :
        {d : ℕ} {loop : Bool} {i : ℕ} {ss : List StatementTree} {j : ℕ} → AreStatements ts limit d loop i ss j →
        BlockHasWords (block_of ss)
    statements_words no_statement = tt
    statements_words (a_statement s rest) = (statement_words s, statements_words rest)

  bodies_words : (bs : List BodyTree) (i j : ℕ) → Bodies ts limit i bs j → AllByRecursion BodyHasWords bs
  bodies_words [] i j x = tt
  bodies_words (b ∷ bs) i j x = (subst BlockHasWords (sym x.1.10) (statements_words x.1.12), bodies_words bs x.0 j x.2)

-- each number of a text that is read
pub text_words : (src : List ℕ) (t : ReadTasks src) → AllByRecursion BodyHasWords t.bodies
text_words src t =
    bodies_words (kinds_of t.tokens) (length (kinds_of t.tokens)) (cuts_known src 0 t.tokens t.spelled.1) t.bodies 0
    (length (kinds_of t.tokens)) t.spelled.2
