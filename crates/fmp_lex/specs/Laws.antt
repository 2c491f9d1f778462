-- What holds of the definition of tokens: words are read by their names, and a text has exactly one cut.
use Rattle.std.specs.Prelude.{◌≡◌, ℕ, List, Some, ◌↔◌}
use Rattle.fmp_base.specs.Services.{service_name}
use Rattle.fmp_lex.specs.declared.token.Token.{Token}
use Rattle.fmp_lex.specs.declared.token.TokenKind.{TokenKind}
use Rattle.fmp_lex.specs.declared.token.TokenKind.TheVariants as kind
use Rattle.fmp_base.specs.Words.{constant_name, api_name, keyword_name}
use Rattle.fmp_lex.specs.Cutting.{word_kind, Cuts}

-- the bytes are the name of this word
abbrev pub IsWord : List ℕ → TokenKind → Type 0
IsWord bytes (kind.Constant c) = bytes ≡ constant_name c
IsWord bytes (kind.Api a) = bytes ≡ api_name a
IsWord bytes (kind.Service s) = bytes ≡ service_name s
IsWord bytes (kind.Keyword k) = bytes ≡ keyword_name k
IsWord bytes _ = ⊥

-- bytes are read as a word exactly if they are its name
abbrev pub ReadsWords : Type 0
ReadsWords = (bytes : List ℕ) (k : TokenKind) → (word_kind bytes ≡ Some k) ↔ IsWord bytes k

-- some list of tokens is a cut of the text, and no other one is
abbrev pub HasOneCut : List ℕ → Type 0
HasOneCut text = (ts : List Token) × Cuts text 0 ts × ((us : List Token) → Cuts text 0 us → us ≡ ts)
