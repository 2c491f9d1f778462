-- The grammar of service calls.
use Rattle.std.specs.Prelude.{◌≡◌, ℕ, List, [], ◌∷◌, replicate, take, drop, ◌++◌, Option, Some, None}
use Rattle.fmp_base.specs.declared.services.Service.{Service}
use Rattle.fmp_base.specs.Services.{arity, out_place}
use Rattle.fmp_lex.specs.declared.token.Symbol.TheVariants as symbol
use Rattle.fmp_lex.specs.declared.token.TokenKind.{TokenKind}
use Rattle.fmp_lex.specs.declared.token.TokenKind.TheVariants as kind
use Rattle.fmp_lex.specs.Forms.{mark_kind, PartsBy}
use Rattle.fmp_lex.specs.Reading.{Rel, IsToken, IsItem}
use Rattle.fmp_lex.specs.declared.marks.Mark.{Mark}
use Rattle.fmp_lex.specs.declared.marks.Mark.TheVariants as mark
use Rattle.fmp_tasklang.specs.declared.forms.CallPart.{CallPart}
use Rattle.fmp_tasklang.specs.declared.forms.CallPart.TheVariants as part
use Rattle.fmp_tasklang.specs.declared.trees.Word.{Word}
use Rattle.fmp_tasklang.specs.Trees.{ExpressionTree, CallTree}
use Rattle.fmp_tasklang.specs.Expressions.{loosest, IsWord, IsExpression}

-- the call that a token is
abbrev pub service_of : TokenKind → Option Service
service_of (kind.Service s) = Some s
service_of _ = None

-- what stands between the parentheses, each with the mark after it: values, and the out place among them
abbrev pub places : List (Mark → CallPart) → List CallPart
places [] = part.Mark mark.RightParen ∷ []
places (p ∷ []) = p mark.RightParen ∷ []
places (p ∷ q ∷ more) = p mark.Comma ∷ places (q ∷ more)

abbrev pub with_out : Option ℕ → List (Mark → CallPart) → List (Mark → CallPart)
with_out None values = values
with_out (Some n) values = take n values ++ part.Out ∷ drop n values

-- the form of a call after its name
abbrev pub call_parts : Service → List CallPart
call_parts s = part.Mark mark.LeftParen ∷ places (with_out (out_place s) (replicate (arity s) part.Value))

-- an argument, or the variable at the out place
pub data ArgumentTree : Type 0 where
  value : ExpressionTree → ArgumentTree
  out : Word → ArgumentTree

-- the arguments without the out place
abbrev pub values_of : List ArgumentTree → List ExpressionTree
values_of [] = []
values_of (value e ∷ more) = e ∷ values_of more
values_of (out w ∷ more) = values_of more

-- the variable at the out place, where it is w if none follows
abbrev pub out_from : Option Word → List ArgumentTree → Option Word
out_from w [] = w
out_from w (value e ∷ more) = out_from w more
out_from w (out v ∷ more) = out_from (Some v) more

abbrev pub out_of : List ArgumentTree → Option Word
out_of = out_from None

-- a call without the variable before `=`
pub record Called : Type 0 where
  pub service : Service
  pub arguments : List ExpressionTree
  pub out : Option Word

abbrev pub called : Service → List ArgumentTree → Called
called s args = record { service = s; arguments = values_of args; out = out_of args }

-- with the variable before `=`, if there is one
abbrev pub call_tree : Option Word → Called → CallTree
call_tree result c = record { service = c.service; arguments = c.arguments; out = c.out; result = result }

-- d is how many levels of nesting are open; the parentheses of a call are none
module _ (d : ℕ) where
  -- a mark; a value and the mark after it; `&`, a variable and the mark after it
  abbrev pub OnePart : CallPart → Rel (Option ArgumentTree)
  OnePart (part.Mark m) ts limit i None j = IsToken ts (mark_kind m) i j
  OnePart (part.Value m) ts limit i (Some (value e)) j =
      (a : ℕ) × IsExpression ts limit d loosest i e a × IsToken ts (mark_kind m) a j
  OnePart (part.Out m) ts limit i (Some (out w)) j =
      (a : ℕ)
      × IsToken ts (kind.Symbol symbol.And) i a × ((b : ℕ) × IsWord ts a w b × IsToken ts (mark_kind m) b j)
  OnePart _ ts limit i _ j = ⊥

  -- parts one after another, and their arguments
  abbrev pub Parts : List CallPart → Rel (List ArgumentTree)
  Parts = PartsBy OnePart

  -- call = callname ( args )
  abbrev pub OneCall : Rel Called
  OneCall ts limit i c j =
      (args : List ArgumentTree) × (c ≡ called c.service args) × (a : ℕ) × IsItem service_of ts i c.service a ×
      Parts (call_parts c.service) ts limit a args j
