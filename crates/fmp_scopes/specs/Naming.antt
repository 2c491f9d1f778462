-- The names that the bodies of a text use, in order of text, and what is wrong with them.
use Rattle.std.specs.Prelude.{ℕ, List, [], ◌∷◌, ◌++◌, slice_get, take, drop, Option, Some, None, Bool, true, false}
use Rattle.fmp_base.specs.Services.{out_place}
use Rattle.fmp_base.specs.Systems.{found}
use Rattle.fmp_lex.specs.declared.fault.BuildFault.{BuildFault}
use Rattle.fmp_lex.specs.declared.fault.FaultKind.{FaultKind}
use Rattle.fmp_lex.specs.declared.fault.FaultKind.TheVariants as fault
use Rattle.fmp_lex.specs.declared.fault.TextFile.{TextFile}
use Rattle.fmp_lex.specs.declared.token.Token.{Token}
use Rattle.fmp_lex.specs.Faults.{offence_fault}
use Rattle.fmp_tasklang.specs.declared.trees.Word.{Word}
use Rattle.fmp_tasklang.specs.Trees.{ExpressionTree, number, named, element, unary, binary, both, either, CallTree}
use Rattle.fmp_tasklang.specs.Trees.{StatementTree, assign, assign_element, service_call, if_then, if_else, while}
use Rattle.fmp_tasklang.specs.Trees.{break, continue, return, Block, empty, next}
use Rattle.fmp_scopes.specs.declared.offences.Offence.{Offence}
use Rattle.fmp_tasklang.specs.Scopes.{Scope, NameMeaning, Variable, Array, Object, Unknown, meaning_of}

-- the fault of a text that an offence is, where these are the tokens of the text
abbrev pub fault_in : TextFile → List Token → Offence → BuildFault
fault_in file ts o = offence_fault file (slice_get ts o.at) o.why

-- the first of two, if there is one
abbrev pub first_offence : Option Offence → Option Offence → Option Offence
first_offence None second = second
first_offence (Some o) second = Some o

-- a name that is read, or one of a variable that is written; likewise one with an index
pub data NameUse : Type 0 where
  Reads : Word → NameUse
  Writes : Word → NameUse
  ReadsElement : Word → NameUse
  WritesElement : Word → NameUse

-- whether something has a name
abbrev pub is_known : NameMeaning → Bool
is_known (Variable v) = true
is_known (Array v) = true
is_known (Object k) = true
is_known Unknown = false

-- the fault of a name that is read, where that is what it means: an array needs an index
abbrev pub read_fault : NameMeaning → Option FaultKind
read_fault (Variable v) = None
read_fault (Array v) = Some fault.Shape
read_fault (Object k) = None
read_fault Unknown = Some fault.UnknownName

-- of a name that is written: an object is no variable
abbrev pub write_fault : NameMeaning → Option FaultKind
write_fault (Variable v) = None
write_fault (Array v) = Some fault.Shape
write_fault (Object k) = Some fault.UnknownName
write_fault Unknown = Some fault.UnknownName

-- of a name that is read with an index: only an array has one
abbrev pub read_element_fault : NameMeaning → Option FaultKind
read_element_fault (Variable v) = Some fault.Shape
read_element_fault (Array v) = None
read_element_fault (Object k) = Some fault.Shape
read_element_fault Unknown = Some fault.UnknownName

-- of a name that is written with an index
abbrev pub write_element_fault : NameMeaning → Option FaultKind
write_element_fault (Variable v) = Some fault.Shape
write_element_fault (Array v) = None
write_element_fault (Object k) = Some fault.UnknownName
write_element_fault Unknown = Some fault.UnknownName

-- the fault at this token, if there is one
abbrev pub at_token : ℕ → Option FaultKind → Option Offence
at_token at None = None
at_token at (Some why) = Some (record { at = at; why = why })

-- the fault of a use of a name
abbrev pub use_offence : Scope → NameUse → Option Offence
use_offence scope (Reads w) = at_token w.at (read_fault (meaning_of scope w.name))
use_offence scope (Writes w) = at_token w.at (write_fault (meaning_of scope w.name))
use_offence scope (ReadsElement w) = at_token w.at (read_element_fault (meaning_of scope w.name))
use_offence scope (WritesElement w) = at_token w.at (write_element_fault (meaning_of scope w.name))

-- the first fault of names in use
abbrev pub uses_offence : Scope → List NameUse → Option Offence
uses_offence scope [] = None
uses_offence scope (u ∷ us) = first_offence (use_offence scope u) (uses_offence scope us)

abbrev pub expression_uses : ExpressionTree → List NameUse
expression_uses (number k) = []
expression_uses (named w) = Reads w ∷ []
expression_uses (element w e) = ReadsElement w ∷ expression_uses e
expression_uses (unary op e) = expression_uses e
expression_uses (binary op a b) = expression_uses a ++ expression_uses b
expression_uses (both a b) = expression_uses a ++ expression_uses b
expression_uses (either a b) = expression_uses a ++ expression_uses b

abbrev pub arguments_uses : List ExpressionTree → List NameUse
arguments_uses [] = []
arguments_uses (e ∷ es) = expression_uses e ++ arguments_uses es

-- a variable that is written, if there is one
abbrev pub word_uses : Option Word → List NameUse
word_uses None = []
word_uses (Some w) = Writes w ∷ []

-- the variable before `=`, then the arguments from left to right, the out place among them
abbrev pub call_uses : CallTree → List NameUse
call_uses c =
    let before = found 0 (out_place c.service) in
    word_uses c.result ++
    (arguments_uses (take before c.arguments) ++ (word_uses c.out ++ arguments_uses (drop before c.arguments)))

-- a statement, and the statements of a block
abbrev mutual
  pub statement_uses : StatementTree → List NameUse
  statement_uses (assign w e) = Writes w ∷ expression_uses e
  statement_uses (assign_element w i e) = WritesElement w ∷ (expression_uses i ++ expression_uses e)
  statement_uses (service_call c) = call_uses c
  statement_uses (if_then e s) = expression_uses e ++ block_uses s
  statement_uses (if_else e s r) = expression_uses e ++ (block_uses s ++ block_uses r)
  statement_uses (while e s) = expression_uses e ++ block_uses s
  statement_uses break = []
  statement_uses continue = []
  statement_uses return = []

  pub block_uses : Block → List NameUse
  block_uses empty = []
  block_uses (next s rest) = statement_uses s ++ block_uses rest
