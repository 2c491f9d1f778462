-- When the answers of the readers of the configuration are right.
use Rattle.std.specs.Prelude.{◌≡◌, ℕ, ℤ, List, Option, Some, None, slice_get, option_and_then, Result, Ok, Err}
use Rattle.fmp_base.specs.declared.names.Name.{Name}
use Rattle.fmp_lex.specs.declared.token.Symbol.TheVariants as symbol
use Rattle.fmp_lex.specs.declared.token.TokenKind.{TokenKind}
use Rattle.fmp_lex.specs.declared.token.TokenKind.TheVariants as kind
use Rattle.fmp_base.specs.declared.words.Keyword.TheVariants as keyword
use Rattle.fmp_lex.specs.declared.reading.ReadError.{ReadError}
use Rattle.fmp_lex.specs.declared.reading.ReadError.TheVariants as errors
use Rattle.fmp_lex.specs.Reading.{At, Item, ParseResult, Right, Anywhere, IsWhole, IsFirstFault, Star}
use Rattle.fmp_cfgparse.specs.declared.forms.ApiPart.{ApiPart}
use Rattle.fmp_cfgparse.specs.declared.tree.Configuration.{Configuration}
use Rattle.fmp_cfgparse.specs.declared.tree.Item as tree
use Rattle.fmp_cfgparse.specs.Grammar.{token_number, name_of, api_of, OneItem, OneValue, OnePart, Parts, OneApi}
use Rattle.fmp_cfgparse.specs.Grammar.{OneClass, Config}
use Rattle.fmp_cfgparse.specs.Trees.{FieldTree, ApiTree, ClassTree, ConfigurationTree, configuration_view}

-- no `|` follows
abbrev pub EndsValue : List TokenKind → ℕ → Type 0
EndsValue ts j = slice_get ts j ≡ Some (kind.Symbol symbol.Or) → ⊥

-- neither `|` nor an API follows
abbrev pub EndsApis : List TokenKind → ℕ → Type 0
EndsApis ts j = EndsValue ts j × (option_and_then api_of (slice_get ts j) ≡ None)

-- no class follows
abbrev pub EndsClasses : List TokenKind → ℕ → Type 0
EndsClasses ts j = slice_get ts j ≡ Some (kind.Keyword keyword.Class) → ⊥

abbrev pub itself : {A : Type 0} → A → A
itself a = a

abbrev pub RightItem : List TokenKind → ℕ → ParseResult tree.Item → Type 0
RightItem ts i = Right (At OneItem i) Anywhere ts i

abbrev pub RightNumber : List TokenKind → ℕ → ParseResult ℤ → Type 0
RightNumber ts i = Right (At (Item token_number) i) Anywhere ts i

abbrev pub RightName : List TokenKind → ℕ → ParseResult Name → Type 0
RightName ts i = Right (At (Item name_of) i) Anywhere ts i

abbrev pub RightValue : List TokenKind → ℕ → ParseResult (List tree.Item) → Type 0
RightValue ts i = Right (At OneValue i) EndsValue ts i

abbrev pub RightPart : ApiPart → List TokenKind → ℕ → ParseResult (Option FieldTree) → Type 0
RightPart p ts i = Right (At (OnePart p) i) EndsValue ts i

abbrev pub RightParts : List ApiPart → List TokenKind → ℕ → ParseResult (List FieldTree) → Type 0
RightParts ps ts i = Right (At (Parts ps) i) EndsValue ts i

abbrev pub RightApi : List TokenKind → ℕ → ParseResult ApiTree → Type 0
RightApi ts i = Right (At OneApi i) EndsValue ts i

abbrev pub RightApis : List TokenKind → ℕ → ParseResult (List ApiTree) → Type 0
RightApis ts i = Right (At (Star OneApi) i) EndsApis ts i

abbrev pub RightClass : List TokenKind → ℕ → ParseResult ClassTree → Type 0
RightClass ts i = Right (At OneClass i) Anywhere ts i

abbrev pub RightClasses : List TokenKind → ℕ → ParseResult (List ClassTree) → Type 0
RightClasses ts i = Right (At (Star OneClass) i) EndsClasses ts i

abbrev pub RightConfig : List TokenKind → ℕ → ParseResult ConfigurationTree → Type 0
RightConfig ts i = Right (At Config i) EndsClasses ts i

-- The tokens are a configuration that spells this tree and no other one, or else the first fault stands at this place.
abbrev pub IsVerdict : List TokenKind → Result Configuration ReadError → Type 0
IsVerdict ts (Ok c) =
    IsWhole Config ts (configuration_view c)
    × ((other : ConfigurationTree) → IsWhole Config ts other → other ≡ configuration_view c)
IsVerdict ts (Err errors.Memory) = Unit {0}
IsVerdict ts (Err (errors.Fault f)) = IsFirstFault Config ts f.at f.why
