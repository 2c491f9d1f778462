-- A statement that nothing reaches: it stands after a jump in the same block.
use Rattle.std.specs.Prelude.{◌≡◌, ℕ, ◌+◌, ◌<◌, Bool, true, false, List, [], ◌++◌, length, codes, Option, Some, None}
use Rattle.std.specs.Option.{option_and_then}
use Rattle.fmp_base.specs.declared.services.Service.TheVariants as service
use Rattle.fmp_base.specs.declared.words.Keyword.TheVariants as keyword
use Rattle.fmp_base.specs.Services.{service_name}
use Rattle.fmp_base.specs.Words.{keyword_name}
use Rattle.fmp_lex.specs.declared.fault.TextFile.TheVariants as file
use Rattle.fmp_lex.specs.declared.token.Symbol.TheVariants as symbol
use Rattle.fmp_lex.specs.declared.token.Token.{Token}
use Rattle.fmp_lex.specs.declared.token.TokenKind.{TokenKind}
use Rattle.fmp_lex.specs.declared.token.TokenKind.TheVariants as kind
use Rattle.fmp_diagnosis.specs.Tokens.{kind_at}
use Rattle.fmp_diagnosis.specs.Words.{quoted}
use Rattle.fmp_warnings.specs.declared.found.Warning.{Warning}
use Rattle.fmp_warnings.specs.declared.landmarks.Mark.{Mark}
use Rattle.fmp_warnings.specs.Warned.{IsSaidAt}

-- How many tokens a jump has before its semicolon, if this one begins one. In a task `ext_tsk` is a jump; in a handler
-- it is refused.
abbrev pub jump_size : (in_task : Bool) → TokenKind → Option ℕ
jump_size t (kind.Keyword keyword.Return) = Some 1
jump_size t (kind.Keyword keyword.Break) = Some 1
jump_size t (kind.Keyword keyword.Continue) = Some 1
jump_size true (kind.Service service.ExtTsk) = Some 3
jump_size t _ = None

abbrev pub is_task : Option TokenKind → Bool
is_task (Some (kind.Keyword keyword.Task)) = true
is_task _ = false

abbrev pub jump_at : List Token → Mark → Option ℕ
jump_at ts m = option_and_then (jump_size (is_task (kind_at ts m.body))) (kind_at ts m.at)

-- more follows in the same block after the semicolon at a place
pub record GoesOn (ts : List Token) (at : ℕ) : Type 0 where
  pub within : at + 1 < length ts
  pub ends : kind_at ts at ≡ Some (kind.Symbol symbol.Semicolon)
  pub more : kind_at ts (at + 1) ≡ Some (kind.Symbol symbol.RightBrace) → ⊥

-- the statement at a place follows a jump
pub record IsUnreached (ts : List Token) (m : Mark) (place : ℕ) : Type 0 where
  pub size : ℕ
  pub jumps : jump_at ts m ≡ Some size
  pub goes_on : GoesOn ts (m.at + size)
  pub is : place ≡ m.at + size + 1

-- a keyword or a service call, as the text writes it
abbrev pub written : Option TokenKind → List ℕ
written (Some (kind.Keyword k)) = keyword_name k
written (Some (kind.Service s)) = service_name s
written _ = []

abbrev pub sentence : (word : List ℕ) → List ℕ
sentence word = codes "nothing reaches this statement: " ++ quoted word ++ codes " stands before it"

-- a warning of such a statement
abbrev pub WarnsOfUnreached : (text : List ℕ) → List Token → Mark → Warning → Type 0
WarnsOfUnreached text ts m w =
    (place : ℕ)
    × IsUnreached ts m place
    × IsSaidAt file.Source text ts place (sentence (written (kind_at ts m.at))) w
