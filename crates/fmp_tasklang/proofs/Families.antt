-- What kind of token a reader's function read something of.
use Rattle.std.proofs.Common.{◌≡◌, ℕ, ℤ, Bool, true, false, Option, Some, None, option_and_then, refl}
use Rattle.fmp_base.specs.declared.services.Service.{Service}
use Rattle.fmp_base.specs.declared.names.Name.{Name}
use Rattle.fmp_base.specs.declared.operators.UnaryOperator.{UnaryOperator}
use Rattle.fmp_lex.specs.declared.token.Symbol.TheVariants as symbol
use Rattle.fmp_base.specs.declared.words.Keyword.TheVariants as keyword
use Rattle.fmp_lex.specs.declared.token.TokenKind.{TokenKind}
use Rattle.fmp_lex.specs.declared.token.TokenKind.TheVariants as kind
use Rattle.fmp_tasklang.specs.Trees.{StatementTree}
use Rattle.fmp_tasklang.specs.Expressions.{token_number, name_of, unary_of}
use Rattle.fmp_tasklang.specs.Calls.{service_of}
use Rattle.fmp_tasklang.specs.Statements.{jump_of}

abbrev pub family : Option TokenKind → ℕ
family None = 6
family (Some (kind.Number n)) = 0
family (Some (kind.Constant c)) = 0
family (Some (kind.Name n)) = 1
family (Some (kind.Symbol s)) = 2
family (Some (kind.Service s)) = 3
family (Some (kind.Keyword k)) = 4
family (Some (kind.Api a)) = 5
family (Some (kind.Bad b)) = 5

pub number_family : (o : Option TokenKind) (a : ℤ) → option_and_then token_number o ≡ Some a → family o ≡ 0
number_family None a e = absurd (cc)
number_family (Some (kind.Number x)) a e = refl
number_family (Some (kind.Constant x)) a e = refl
number_family (Some (kind.Name x)) a e = absurd (cc)
number_family (Some (kind.Symbol x)) a e = absurd (cc)
number_family (Some (kind.Service x)) a e = absurd (cc)
number_family (Some (kind.Keyword x)) a e = absurd (cc)
number_family (Some (kind.Api x)) a e = absurd (cc)
number_family (Some (kind.Bad x)) a e = absurd (cc)

pub name_family : (o : Option TokenKind) (a : Name) → option_and_then name_of o ≡ Some a → family o ≡ 1
name_family None a e = absurd (cc)
name_family (Some (kind.Number x)) a e = absurd (cc)
name_family (Some (kind.Constant x)) a e = absurd (cc)
name_family (Some (kind.Name x)) a e = refl
name_family (Some (kind.Symbol x)) a e = absurd (cc)
name_family (Some (kind.Service x)) a e = absurd (cc)
name_family (Some (kind.Keyword x)) a e = absurd (cc)
name_family (Some (kind.Api x)) a e = absurd (cc)
name_family (Some (kind.Bad x)) a e = absurd (cc)

pub unary_family : (o : Option TokenKind) (a : UnaryOperator) → option_and_then unary_of o ≡ Some a → family o ≡ 2
unary_family None a e = absurd (cc)
unary_family (Some (kind.Number x)) a e = absurd (cc)
unary_family (Some (kind.Constant x)) a e = absurd (cc)
unary_family (Some (kind.Name x)) a e = absurd (cc)
unary_family (Some (kind.Symbol x)) a e = refl
unary_family (Some (kind.Service x)) a e = absurd (cc)
unary_family (Some (kind.Keyword x)) a e = absurd (cc)
unary_family (Some (kind.Api x)) a e = absurd (cc)
unary_family (Some (kind.Bad x)) a e = absurd (cc)

pub service_family : (o : Option TokenKind) (a : Service) → option_and_then service_of o ≡ Some a → family o ≡ 3
service_family None a e = absurd (cc)
service_family (Some (kind.Number x)) a e = absurd (cc)
service_family (Some (kind.Constant x)) a e = absurd (cc)
service_family (Some (kind.Name x)) a e = absurd (cc)
service_family (Some (kind.Symbol x)) a e = absurd (cc)
service_family (Some (kind.Service x)) a e = refl
service_family (Some (kind.Keyword x)) a e = absurd (cc)
service_family (Some (kind.Api x)) a e = absurd (cc)
service_family (Some (kind.Bad x)) a e = absurd (cc)

pub jump_family : (loop : Bool) (o : Option TokenKind) (a : StatementTree) → option_and_then (jump_of loop) o ≡ Some a
    → family o ≡ 4
jump_family true None a e = absurd (cc)
jump_family true (Some (kind.Number x)) a e = absurd (cc)
jump_family true (Some (kind.Constant x)) a e = absurd (cc)
jump_family true (Some (kind.Name x)) a e = absurd (cc)
jump_family true (Some (kind.Symbol x)) a e = absurd (cc)
jump_family true (Some (kind.Service x)) a e = absurd (cc)
jump_family true (Some (kind.Keyword x)) a e = refl
jump_family true (Some (kind.Api x)) a e = absurd (cc)
jump_family true (Some (kind.Bad x)) a e = absurd (cc)
jump_family false None a e = absurd (cc)
jump_family false (Some (kind.Number x)) a e = absurd (cc)
jump_family false (Some (kind.Constant x)) a e = absurd (cc)
jump_family false (Some (kind.Name x)) a e = absurd (cc)
jump_family false (Some (kind.Symbol x)) a e = absurd (cc)
jump_family false (Some (kind.Service x)) a e = absurd (cc)
jump_family false (Some (kind.Keyword x)) a e = refl
jump_family false (Some (kind.Api x)) a e = absurd (cc)
jump_family false (Some (kind.Bad x)) a e = absurd (cc)

-- a name is nothing else that begins an operand or a statement
pub name_excludes : (o : Option TokenKind) (a : Name) → option_and_then name_of o ≡ Some a →
    (option_and_then token_number o ≡ None) × (option_and_then unary_of o ≡ None)
    × (o ≡ Some (kind.Symbol symbol.LeftParen) → ⊥)
name_excludes None a e = absurd (cc)
name_excludes (Some (kind.Number x)) a e = absurd (cc)
name_excludes (Some (kind.Constant x)) a e = absurd (cc)
name_excludes (Some (kind.Name x)) a e = (refl, refl, λ f. absurd (cc))
name_excludes (Some (kind.Symbol x)) a e = absurd (cc)
name_excludes (Some (kind.Service x)) a e = absurd (cc)
name_excludes (Some (kind.Keyword x)) a e = absurd (cc)
name_excludes (Some (kind.Api x)) a e = absurd (cc)
name_excludes (Some (kind.Bad x)) a e = absurd (cc)

no_jump_name : (loop : Bool) (n : Name) → jump_of loop (kind.Name n) ≡ None
no_jump_name true n = refl
no_jump_name false n = refl

pub name_starts : (loop : Bool) (o : Option TokenKind) (a : Name) → option_and_then name_of o ≡ Some a →
    (option_and_then service_of o ≡ None) × (option_and_then (jump_of loop) o ≡ None)
    × (o ≡ Some (kind.Keyword keyword.If) → ⊥) × (o ≡ Some (kind.Keyword keyword.While) → ⊥)
name_starts loop None a e = absurd (cc)
name_starts loop (Some (kind.Number x)) a e = absurd (cc)
name_starts loop (Some (kind.Constant x)) a e = absurd (cc)
name_starts loop (Some (kind.Name x)) a e = (refl, no_jump_name loop x, (λ f. absurd (cc)), (λ f. absurd (cc)))
name_starts loop (Some (kind.Symbol x)) a e = absurd (cc)
name_starts loop (Some (kind.Service x)) a e = absurd (cc)
name_starts loop (Some (kind.Keyword x)) a e = absurd (cc)
name_starts loop (Some (kind.Api x)) a e = absurd (cc)
name_starts loop (Some (kind.Bad x)) a e = absurd (cc)
