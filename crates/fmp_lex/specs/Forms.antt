-- Forms: parts that are read one after another, some of which give something, and the marks between them.
use Rattle.std.specs.Prelude.{◌≡◌, ℕ, List, [], ◌∷◌, Option, Some, None}
use Rattle.fmp_lex.specs.declared.marks.Mark.{Mark}
use Rattle.fmp_lex.specs.declared.marks.Mark.TheVariants as mark
use Rattle.fmp_lex.specs.declared.token.Symbol.TheVariants as symbol
use Rattle.fmp_lex.specs.declared.token.TokenKind.{TokenKind}
use Rattle.fmp_lex.specs.declared.token.TokenKind.TheVariants as kind
use Rattle.fmp_base.specs.declared.words.Keyword.TheVariants as keyword
use Rattle.fmp_lex.specs.Reading.{Rel}

-- the token of a mark
abbrev pub mark_kind : Mark → TokenKind
mark_kind mark.LeftParen = kind.Symbol symbol.LeftParen
mark_kind mark.RightParen = kind.Symbol symbol.RightParen
mark_kind mark.LeftBrace = kind.Symbol symbol.LeftBrace
mark_kind mark.RightBrace = kind.Symbol symbol.RightBrace
mark_kind mark.Comma = kind.Symbol symbol.Comma
mark_kind mark.Semicolon = kind.Symbol symbol.Semicolon
mark_kind mark.Null = kind.Keyword keyword.Null

-- what a part gives, if it gives something, before the rest
abbrev pub put : {A : Type 0} → Option A → List A → List A
put None more = more
put (Some a) more = a ∷ more

-- parts one after another, and what they give
abbrev pub PartsBy : {P A : Type 0} → (P → Rel (Option A)) → List P → Rel (List A)
PartsBy one [] ts limit i all j = (all ≡ []) × (j ≡ i)
PartsBy {A = A} one (p ∷ ps) ts limit i all j =
    (a : Option A)
    × (more : List A)
    × (all ≡ put a more) × (k : ℕ) × one p ts limit i a k × PartsBy one ps ts limit k more j
