-- What is added to statements while a list of tokens is read, what stands in a body before its statements, and when a
-- window does not move on.
use Rattle.std.specs.Prelude.{◌≡◌, ℕ, ◌<◌, ◌≤◌, ◌⊎◌, Bool, false, List, ◌++◌, length, Result, Ok, Err}
use Rattle.fmp_lex.specs.declared.reading.GrammarFault.{GrammarFault}
use Rattle.fmp_lex.specs.declared.reading.ReadError.{ReadError}
use Rattle.fmp_lex.specs.declared.reading.ReadError.TheVariants as errors
use Rattle.fmp_lex.specs.declared.token.Symbol.TheVariants as symbol
use Rattle.fmp_lex.specs.declared.token.TokenKind.{TokenKind}
use Rattle.fmp_lex.specs.declared.token.TokenKind.TheVariants as kind
use Rattle.fmp_lex.specs.declared.window.Window.{Window}
use Rattle.fmp_lex.specs.Reading.{Rel, At, Seq, Star, OneToken, ParseResult, found, stopped, Right}
use Rattle.fmp_lex.specs.Windows.{IsFaultAt}
use Rattle.fmp_tasklang.specs.declared.streaming.Heading.{Heading}
use Rattle.fmp_tasklang.specs.declared.trees.Declaration.{Declaration}
use Rattle.fmp_tasklang.specs.declared.trees.Word.{Word}
use Rattle.fmp_tasklang.specs.Grammar.{OneVariable}
use Rattle.fmp_tasklang.specs.Reading.{EndsStatements, EndsVariables, OneWord, OneStatement, RightStatements}
use Rattle.fmp_tasklang.specs.Trees.{StatementTree}

-- The statements from i on were added to those before, up to the place of a `}`; or those that stand before the first
-- fault, up to where the one with the fault begins.
abbrev pub Adds : List TokenKind → ℕ → Bool → (i j : ℕ) → (before after : List StatementTree) →
    Result (Unit {0}) ReadError → Type 0
Adds ts d loop i j before after (Ok u) =
    (ss : List StatementTree) × (after ≡ before ++ ss) × RightStatements ts d loop i (found ss j) × EndsStatements ts j
Adds ts d loop i j before after (Err errors.Memory) = Unit {0}
Adds ts d loop i j before after (Err (errors.Fault f)) =
    (ss : List StatementTree) × (after ≡ before ++ ss) × RightStatements ts d loop i (stopped f.at f.why)
    × (i ≤ j) × (j ≤ length ts) × ((limit : ℕ) → Star (OneStatement d loop) ts limit i ss j)

-- name { {variable}
abbrev pub OneHeading : Rel (Word × (Unit {0} × List Declaration))
OneHeading = Seq OneWord (Seq (OneToken (kind.Symbol symbol.LeftBrace)) (Star OneVariable))

abbrev pub RightHeading : List TokenKind → ℕ → ParseResult (Word × (Unit {0} × List Declaration)) → Type 0
RightHeading ts i = Right (At OneHeading i) EndsVariables ts i

-- a fault stands in the heading
abbrev pub LacksHeading : List TokenKind → ℕ → Type 0
LacksHeading ts i = (j : ℕ) × (why : GrammarFault) × RightHeading ts i (stopped j why)

-- a fault stands at one of these tokens, where statements of a body are read
abbrev pub LacksStatements : List TokenKind → Type 0
LacksStatements ts = (i j : ℕ) × (why : GrammarFault) × RightStatements ts 0 false i (stopped j why) × (j < length ts)

-- The window reaches to the end of its text, or up to what is no token.
abbrev pub IsStuck : Window → Type 0
IsStuck w = (length w.text.now ≤ w.next) ⊎ IsFaultAt w.text.now w.next

abbrev pub heading_view : Heading → Word × (Unit {0} × List Declaration)
heading_view h = (h.name, (tt, h.variables.items))
