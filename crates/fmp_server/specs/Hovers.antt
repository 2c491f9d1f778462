-- What is said of the word at a position.
use Rattle.std.specs.Prelude.{◌≡◌, ◌⊎◌, ℕ, ◌-◌, List, [], ◌∷◌, ◌++◌, Option, Some, None, IfSome, codes, slice_get}
use Rattle.std.specs.Prelude.{⊤}
use Rattle.std.specs.Fmt.{signed_decimal}
use Rattle.std.specs.Str.Lossy.{utf8_lossy}
use Rattle.json.specs.Token.{null}
use Rattle.fmp_base.specs.declared.services.Service.{Service}
use Rattle.fmp_base.specs.declared.words.Api.{Api}
use Rattle.fmp_base.specs.declared.words.Constant.{Constant}
use Rattle.fmp_base.specs.Services.{service_name}
use Rattle.fmp_base.specs.Words.{api_name, constant_name, constant_value}
use Rattle.fmp_diagnosis.specs.Culprits.{HasTokens}
use Rattle.fmp_lex.specs.declared.token.Token.{Token}
use Rattle.fmp_lex.specs.declared.token.TokenKind.{TokenKind}
use Rattle.fmp_lex.specs.declared.token.TokenKind.TheVariants as kind
use Rattle.fmp_server.specs.declared.documents.OpenTexts.{OpenTexts}
use Rattle.fmp_server.specs.declared.messages.RequestId.{RequestId}
use Rattle.fmp_server.specs.declared.positions.Position.{Position}
use Rattle.fmp_server.specs.declared.positions.TextRange.{TextRange}
use Rattle.fmp_server.specs.Documents.{bytes_of}
use Rattle.fmp_server.specs.Messages.{Adds, answer, hover}
use Rattle.fmp_server.specs.Positions.{IsOffset, IsRange}
use Rattle.fmp_server.specs.Roles.{HasNoWordAt, IsLastWordAt}

-- the beginning of what is said of a service call, of a static API and of a constant
abbrev pub call_head : Service → List ℕ
call_head s = codes "`" ++ (service_name s ++ codes "(")

abbrev pub api_head : Api → List ℕ
api_head a = codes "`" ++ (api_name a ++ codes "` makes ")

abbrev pub constant_head : Constant → List ℕ
constant_head c = codes "`" ++ (constant_name c ++ (codes "` is " ++ signed_decimal (constant_value c)))

-- the beginning of what is said of a word, if there is always something to say of it
abbrev pub head_of : TokenKind → Option (List ℕ)
head_of (kind.Service s) = Some (call_head s)
head_of (kind.Api a) = Some (api_head a)
head_of (kind.Constant c) = Some (constant_head c)
head_of _ = None

-- a text begins so, if a beginning is known
abbrev pub BeginsWith : Option (List ℕ) → (said : List ℕ) → Type 0
BeginsWith None said = ⊤
BeginsWith (Some head) said = (rest : List ℕ) × (said ≡ head ++ rest)

-- what is said of this word, if there is one, follows what was said before
abbrev pub Says : Option TokenKind → (old new : List ℕ) → Type 0
Says None old new = ⊤
Says (Some k) old new = IfSome (head_of k) (λ head. Adds (old ++ head) new)

-- the answer says something of a token
pub record IsSaid (o : OpenTexts) (id : RequestId) (t : Token) (bytes : List ℕ) : Type 0 where
  pub range : TextRange
  pub is_range : IsRange (bytes_of o o.file) (t.line - 1) t.start t.end range
  pub said : List ℕ
  pub begins : BeginsWith (head_of t.kind) said
  pub answered : bytes ≡ answer id (hover range (utf8_lossy said))

abbrev pub IsNothing : RequestId → List ℕ → Type 0
IsNothing id bytes = bytes ≡ answer id (null ∷ [])

-- the answer says something of the token at a place, or null where there may be nothing to say
abbrev pub IsHoverAt : OpenTexts → RequestId → List Token → (at : ℕ) → List ℕ → Type 0
IsHoverAt o id ts at bytes =
    (t : Token) × (slice_get ts at ≡ Some t)
    × (IsSaid o id t bytes ⊎ ((head_of t.kind ≡ None) × IsNothing id bytes))

-- the answer says something of the word at a byte; or null where there is no word
abbrev pub IsHoverIn : OpenTexts → RequestId → List Token → (offset : ℕ) → List ℕ → Type 0
IsHoverIn o id ts offset bytes =
    ((at : ℕ) × IsLastWordAt ts offset at × IsHoverAt o id ts at bytes)
    ⊎ (HasNoWordAt ts offset × IsNothing id bytes)

-- the same of the word at a position
abbrev pub IsHover : OpenTexts → RequestId → Position → List ℕ → Type 0
IsHover o id p bytes =
    (ts : List Token) × (offset : ℕ) × HasTokens (bytes_of o o.file) ts × IsOffset (bytes_of o o.file) p offset
    × IsHoverIn o id ts offset bytes
