-- What compiling a task text answers, and what stands after each of its bodies.
use Rattle.std.specs.Prelude.{◌≡◌, ℕ, ◌⊎◌, List, [], map, Some, None, Result, Ok, Err}
use Rattle.fmp_base.specs.Systems.{SystemTables}
use Rattle.fmp_lex.specs.declared.fault.BuildFault.{BuildFault}
use Rattle.fmp_lex.specs.declared.fault.BuildFault.TheVariants as build
use Rattle.fmp_lex.specs.declared.fault.TextFile.TheVariants as file
use Rattle.fmp_lex.specs.declared.reading.ReadError.{ReadError}
use Rattle.fmp_lex.specs.declared.reading.ReadError.TheVariants as errors
use Rattle.fmp_lex.specs.declared.token.Token.{Token}
use Rattle.fmp_lex.specs.declared.token.TokenKind.{TokenKind}
use Rattle.fmp_lex.specs.Faults.{Spells, IsSyntaxFault}
use Rattle.fmp_lex.specs.Reading.{found, stopped, IsWhole, IsFirstFault}
use Rattle.fmp_tasklang.specs.Grammar.{Bodies}
use Rattle.fmp_tasklang.specs.Reading.{RightBodies}
use Rattle.fmp_tasklang.specs.Trees.{BodyTree}
use Rattle.fmp_instructions.specs.Instructions.{body_tables, code_tables}
use Rattle.fmp_scopes.specs.declared.offences.Offence.{Offence}
use Rattle.fmp_codegen.specs.declared.texts.CompiledText.{CompiledText}
use Rattle.fmp_codegen.specs.declared.texts.MadeBodies.{MadeBodies}
use Rattle.fmp_codegen.specs.Compiling.{bodies_offence, compiled, IsAccepted}
use Rattle.fmp_scopes.specs.Headings.{AreHeadings}
use Rattle.fmp_scopes.specs.Naming.{fault_in}

-- after bodies that were read stands their first fault, or else their headings and their code
pub record AreMade (tables : SystemTables) (made : MadeBodies) (bodies : List BodyTree) : Type 0 where
  pub offence : made.offence ≡ bodies_offence tables [] bodies
  pub headings : made.offence ≡ None → AreHeadings made.headings.items bodies
  pub code : made.offence ≡ None → map body_tables made.bodies.items ≡ compiled tables bodies

-- the bodies at the head of the tokens are made, up to a place where none begins, or the first fault stands there
abbrev pub IsMadeUpTo : SystemTables → List TokenKind → Result (MadeBodies × ℕ) ReadError → Type 0
IsMadeUpTo tables ts (Ok x) =
    (bodies : List BodyTree) × AreMade tables x.0 bodies × RightBodies ts 0 (found bodies x.1)
IsMadeUpTo tables ts (Err errors.Memory) = Unit {0}
IsMadeUpTo tables ts (Err (errors.Fault f)) = RightBodies ts 0 (stopped f.at f.why)

-- the text spells bodies without a fault, and they are made
abbrev pub IsStreamed : SystemTables → List ℕ → MadeBodies → Type 0
IsStreamed tables text made =
    (ts : List Token) × (bodies : List BodyTree) × Spells Bodies text ts bodies × AreMade tables made bodies
    × (made.offence ≡ None)

-- the bodies that the tokens spell are made, or the first fault stands there
abbrev pub IsMadeOf : SystemTables → List TokenKind → Result MadeBodies ReadError → Type 0
IsMadeOf tables ts (Ok made) = (bodies : List BodyTree) × AreMade tables made bodies × IsWhole Bodies ts bodies
IsMadeOf tables ts (Err errors.Memory) = Unit {0}
IsMadeOf tables ts (Err (errors.Fault f)) = IsFirstFault Bodies ts f.at f.why

-- the code that is made, or the first fault, where these are the tokens of the text
abbrev pub MadeText : List Token → MadeBodies → Result CompiledText BuildFault → Type 0
MadeText ts made (Ok c) =
    (made.offence ≡ None) × (c.headings.items ≡ made.headings.items)
    × (code_tables c.code ≡ map body_tables made.bodies.items)
MadeText ts made (Err f) = (o : Offence) × (made.offence ≡ Some o) × (f ≡ fault_in file.Source ts o)

-- The text spells bodies without a fault, and these are their headings and their code; or this is the first fault of
-- its syntax, or else of the bodies that it spells.
abbrev pub IsTextCompiled : SystemTables → List ℕ → Result CompiledText BuildFault → Type 0
IsTextCompiled tables text (Ok c) =
    (ts : List Token) × (bodies : List BodyTree) × Spells Bodies text ts bodies × IsAccepted tables bodies ×
    AreHeadings c.headings.items bodies × (code_tables c.code ≡ compiled tables bodies)
IsTextCompiled tables text (Err build.Memory) = Unit {0}
IsTextCompiled tables text (Err (build.At f place why)) =
    IsSyntaxFault file.Source Bodies text (build.At f place why) ⊎
    ((ts : List Token) × (bodies : List BodyTree) × Spells Bodies text ts bodies ×
    (o : Offence) × (bodies_offence tables [] bodies ≡ Some o) × (build.At f place why ≡ fault_in file.Source ts o))
