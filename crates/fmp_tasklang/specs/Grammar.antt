-- The grammar of the task language: which tokens spell which bodies.
use Rattle.std.specs.Prelude.{◌≡◌, ℕ, ℤ, false, List, Option, Some, None}
use Rattle.fmp_lex.specs.declared.token.Symbol.TheVariants as symbol
use Rattle.fmp_lex.specs.declared.token.TokenKind.{TokenKind}
use Rattle.fmp_lex.specs.declared.token.TokenKind.TheVariants as kind
use Rattle.fmp_base.specs.declared.words.Keyword.TheVariants as keyword
use Rattle.fmp_lex.specs.Reading.{Rel, IsToken, IsItem, Star}
use Rattle.fmp_tasklang.specs.declared.trees.BodyKind.{BodyKind}
use Rattle.fmp_tasklang.specs.declared.trees.BodyKind.TheVariants as body
use Rattle.fmp_tasklang.specs.declared.trees.Declaration.{Declaration}
use Rattle.fmp_tasklang.specs.declared.trees.Length.{Length}
use Rattle.fmp_tasklang.specs.Trees.{StatementTree, BodyTree}
use Rattle.fmp_tasklang.specs.Blocks.{block_of}
use Rattle.fmp_tasklang.specs.Expressions.{IsWord}
use Rattle.fmp_tasklang.specs.Statements.{AreStatements}

-- the kind of body that a token begins
abbrev pub body_kind_of : TokenKind → Option BodyKind
body_kind_of (kind.Keyword keyword.Task) = Some body.Task
body_kind_of (kind.Keyword keyword.Handler) = Some body.Handler
body_kind_of _ = None

-- the number that a token is; constants are none
abbrev pub number_of : TokenKind → Option ℤ
number_of (kind.Number n) = Some n
number_of _ = None

-- nothing, or [ number ]; these brackets are no nesting
abbrev pub OneLength : Rel (Option Length)
OneLength ts limit i None j = j ≡ i
OneLength ts limit i (Some l) j =
    (a : ℕ)
    × IsToken ts (kind.Symbol symbol.LeftBracket) i a
    × ((b : ℕ)
    × ((l.at ≡ a) × IsItem number_of ts a l.places b) × IsToken ts (kind.Symbol symbol.RightBracket) b j)

-- var name ; | var name [ number ] ;
abbrev pub OneVariable : Rel Declaration
OneVariable ts limit i v j =
    (a : ℕ)
    × IsToken ts (kind.Keyword keyword.Var) i a
    × ((b : ℕ) × IsWord ts a v.name b
    × ((c : ℕ) × OneLength ts limit b v.length c × IsToken ts (kind.Symbol symbol.Semicolon) c j))

-- body = (task | handler) name { {variable} {stmt} }; its braces are no nesting
abbrev pub OneBody : Rel BodyTree
OneBody ts limit i b j =
    (b.at ≡ i) × (k : ℕ) × IsItem body_kind_of ts i b.kind k × (l : ℕ) × IsWord ts k b.name l ×
    (m : ℕ) × IsToken ts (kind.Symbol symbol.LeftBrace) l m × (n : ℕ) × Star OneVariable ts limit m b.variables n ×
    (ss : List StatementTree) × (b.statements ≡ block_of ss) × (o : ℕ) × AreStatements ts limit 0 false n ss o ×
    IsToken ts (kind.Symbol symbol.RightBrace) o j

-- text = {body}
abbrev pub Bodies : Rel (List BodyTree)
Bodies = Star OneBody
