-- The calls that the grammar reads have the arguments of their services.
use Rattle.std.proofs.Common.{◌≡◌, ℕ, suc, Bool, true, false, List, [], ◌∷◌, length, slice_get, Option, Some, None}
use Rattle.std.proofs.Common.{option_and_then, is_some, refl, sym, ap, subst, ◌∙◌}
use Rattle.fmp_base.specs.declared.services.Service.{Service}
use Rattle.fmp_base.specs.declared.services.Service.TheVariants as service
use Rattle.fmp_base.specs.Services.{arity, out_place}
use Rattle.fmp_lex.specs.declared.token.TokenKind.{TokenKind}
use Rattle.fmp_lex.specs.declared.token.TokenKind.TheVariants as kind
use Rattle.fmp_base.specs.declared.words.Keyword.TheVariants as keyword
use Rattle.fmp_lex.specs.Forms.{put}
use Rattle.fmp_tasklang.specs.declared.forms.CallPart.{CallPart}
use Rattle.fmp_tasklang.specs.declared.forms.CallPart.TheVariants as part
use Rattle.fmp_tasklang.specs.declared.trees.Word.{Word}
use Rattle.fmp_tasklang.specs.Trees.{ExpressionTree, StatementTree, Block, BodyTree}
use Rattle.fmp_tasklang.specs.Blocks.{block_of, choice}
use Rattle.fmp_tasklang.specs.Calls.{call_parts, ArgumentTree, value, out, values_of, out_from, Called, call_tree}
use Rattle.fmp_tasklang.specs.Calls.{OnePart, Parts, OneCall}
use Rattle.fmp_tasklang.specs.CallForms.{CallFits, StatementFits, BlockFits, CallsFit}
use Rattle.fmp_tasklang.specs.Statements.{jump_of, IsStatement, an_assignment, an_element_assignment, a_call, a_jump}
use Rattle.fmp_tasklang.specs.Statements.{an_if, a_while, IsIf, if_chosen, IsElse, no_else, an_else, IsOther, a_block}
use Rattle.fmp_tasklang.specs.Statements.{another_if, IsBlock, braces, AreStatements, no_statement, a_statement}
use Rattle.fmp_tasklang.specs.Grammar.{Bodies}

-- how many values a form has, and whether it has an out place
abbrev values_in : List CallPart → ℕ
values_in [] = 0
values_in (part.Mark m ∷ ps) = values_in ps
values_in (part.Value m ∷ ps) = suc (values_in ps)
values_in (part.Out m ∷ ps) = values_in ps

abbrev has_out : Bool → List CallPart → Bool
has_out b [] = b
has_out b (part.Mark m ∷ ps) = has_out b ps
has_out b (part.Value m ∷ ps) = has_out b ps
has_out b (part.Out m ∷ ps) = has_out true ps

form_values : (s : Service) → values_in (call_parts s) ≡ arity s
form_values service.Put = refl
form_values _ = refl

form_out : (s : Service) → has_out false (call_parts s) ≡ is_some (out_place s)
form_out service.Put = refl
form_out _ = refl

module _ (d : ℕ) (ts : List TokenKind) (limit : ℕ) where
  one_value :
      (p : CallPart) (ps : List CallPart) (a : Option ArgumentTree) (more : List ArgumentTree) (i k : ℕ) →
      OnePart d p ts limit i a k → length (values_of more) ≡ values_in ps →
      length (values_of (put a more)) ≡ values_in (p ∷ ps)
  one_value (part.Mark m) ps None more i k x h = h
  one_value (part.Mark m) ps (Some (value e)) more i k x h = absurd x
  one_value (part.Mark m) ps (Some (out w)) more i k x h = absurd x
  one_value (part.Value m) ps None more i k x h = absurd x
  one_value (part.Value m) ps (Some (value e)) more i k x h = ap suc h
  one_value (part.Value m) ps (Some (out w)) more i k x h = absurd x
  one_value (part.Out m) ps None more i k x h = absurd x
  one_value (part.Out m) ps (Some (value e)) more i k x h = absurd x
  one_value (part.Out m) ps (Some (out w)) more i k x h = h

  parts_values :
      (ps : List CallPart) (i : ℕ) (args : List ArgumentTree) (j : ℕ) → Parts d ps ts limit i args j →
      length (values_of args) ≡ values_in ps
  parts_values [] i args j x = ap (λ a. length (values_of a)) x.0
  parts_values (p ∷ ps) i args j x =
      ap (λ a. length (values_of a)) x.2
      ∙ one_value p ps x.0 x.1 i x.3 x.4 (parts_values ps x.3 x.1 j x.5)

  one_out :
      (p : CallPart) (ps : List CallPart) (a : Option ArgumentTree) (more : List ArgumentTree) (i k : ℕ)
      (w : Option Word) →
      OnePart d p ts limit i a k → ((v : Option Word) → is_some (out_from v more) ≡ has_out (is_some v) ps) →
      is_some (out_from w (put a more)) ≡ has_out (is_some w) (p ∷ ps)
  one_out (part.Mark m) ps None more i k w x h = h w
  one_out (part.Mark m) ps (Some (value e)) more i k w x h = absurd x
  one_out (part.Mark m) ps (Some (out v)) more i k w x h = absurd x
  one_out (part.Value m) ps None more i k w x h = absurd x
  one_out (part.Value m) ps (Some (value e)) more i k w x h = h w
  one_out (part.Value m) ps (Some (out v)) more i k w x h = absurd x
  one_out (part.Out m) ps None more i k w x h = absurd x
  one_out (part.Out m) ps (Some (value e)) more i k w x h = absurd x
  one_out (part.Out m) ps (Some (out v)) more i k w x h = h (Some v)

  parts_out :
      (ps : List CallPart) (i : ℕ) (args : List ArgumentTree) (j : ℕ) (w : Option Word) → Parts d ps ts limit i args j →
      is_some (out_from w args) ≡ has_out (is_some w) ps
  parts_out [] i args j w x = ap (λ a. is_some (out_from w a)) x.0
  parts_out (p ∷ ps) i args j w x =
      ap (λ a. is_some (out_from w a)) x.2
      ∙ one_out p ps x.0 x.1 i x.3 w x.4 (λ v. parts_out ps x.3 x.1 j v x.5)

  -- a call has the arguments of its service
  pub call_fits :
      (result : Option Word) (c : Called) (i j : ℕ) → OneCall d ts limit i c j → CallFits (call_tree result c)
  call_fits result c i j x = (
    ap (λ (z : Called). length z.arguments) x.1 ∙ parts_values (call_parts c.service) x.2 x.0 j x.4
        ∙ form_values c.service,
    ap (λ (z : Called). is_some z.out) x.1 ∙ parts_out (call_parts c.service) x.2 x.0 j None x.4 ∙ form_out c.service,
  )

abbrev FitsIf : Option StatementTree → Type 0
FitsIf None = Unit {0}
FitsIf (Some s) = StatementFits s

jump_fits : (loop : Bool) (t : TokenKind) → FitsIf (jump_of loop t)
jump_fits true (kind.Keyword keyword.Break) = tt
jump_fits true (kind.Keyword keyword.Continue) = tt
jump_fits true (kind.Keyword keyword.Return) = tt
jump_fits false (kind.Keyword keyword.Return) = tt
jump_fits _ _ = tt

token_fits : (loop : Bool) (o : Option TokenKind) → FitsIf (option_and_then (jump_of loop) o)
token_fits loop None = tt
token_fits loop (Some t) = jump_fits loop t

abbrev ElseFits : Option Block → Type 0
ElseFits None = Unit {0}
ElseFits (Some b) = BlockFits b

choice_fits :
    (e : ExpressionTree) (body : Block) (other : Option Block) → BlockFits body → ElseFits other →
    StatementFits (choice e body other)
choice_fits e body None first second = first
choice_fits e body (Some b) first second = (first, second)

module _ (ts : List TokenKind) (limit : ℕ) where
  mutual
    pub statement_fits :
        {d : ℕ} {loop : Bool} {i : ℕ} {s : StatementTree} {j : ℕ} → IsStatement ts limit d loop i s j → StatementFits s
    statement_fits (an_assignment a r e semi) = tt
    statement_fits (an_element_assignment a w x eq e semi) = tt
    statement_fits {d = d} (a_call r a c b res call semi is) =
        subst StatementFits (sym is) (call_fits d ts limit r c a b call)
    statement_fits {loop = loop} {i = i} (a_jump x semi) = subst FitsIf x.0 (token_fits loop (slice_get ts i))
    statement_fits (an_if s) = if_fits s
    statement_fits (a_while x test body) = block_fits body

    if_fits : {d : ℕ} {loop : Bool} {i : ℕ} {s : StatementTree} {j : ℕ} → IsIf ts limit d loop i s j → StatementFits s
    if_fits (if_chosen {e = e} {body = body} {other = other} x test block els is) =
        subst StatementFits (sym is) (choice_fits e body other (block_fits block) (else_fits els))

    else_fits : {d : ℕ} {loop : Bool} {i : ℕ} {o : Option Block} {j : ℕ} → IsElse ts limit d loop i o j → ElseFits o
    else_fits no_else = tt
    else_fits (an_else x other) = other_fits other

    other_fits : {d : ℕ} {loop : Bool} {i : ℕ} {b : Block} {j : ℕ} → IsOther ts limit d loop i b j → BlockFits b
    other_fits (a_block b) = block_fits b
    other_fits (another_if allows f is) = subst BlockFits (sym is) (if_fits f, tt)

    block_fits : {d : ℕ} {loop : Bool} {i : ℕ} {b : Block} {j : ℕ} → IsBlock ts limit d loop i b j → BlockFits b
    block_fits (braces allows left ss right is) = subst BlockFits (sym is) (statements_fit ss)

    pub statements_fit :
        {d : ℕ} {loop : Bool} {i : ℕ} {ss : List StatementTree} {j : ℕ} → AreStatements ts limit d loop i ss j →
        BlockFits (block_of ss)
    statements_fit no_statement = tt
    statements_fit (a_statement s rest) = (statement_fits s, statements_fit rest)

  -- each call of the bodies of a text
  pub calls_fit : (bs : List BodyTree) (i j : ℕ) → Bodies ts limit i bs j → CallsFit bs
  calls_fit [] i j x = tt
  calls_fit (b ∷ bs) i j x =
      (subst BlockFits (sym x.1.10) (statements_fit x.1.12), calls_fit bs x.0 j x.2)
