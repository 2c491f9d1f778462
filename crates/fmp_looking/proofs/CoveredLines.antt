-- The lines of tokens, one token after the other.
use Rattle.std.proofs.Common.{◌≡◌, ℕ, suc, ◌+◌, List, ap, arith}
use Rattle.fmp_lex.specs.declared.token.Token.{Token}
use Rattle.fmp_looking.specs.Coverage.{lines_in, with_token}

one : (i : ℕ) → i + 1 ≡ suc i
one i = omega arith

pub lines_next : (ts : List Token) (i : ℕ) → lines_in ts (i + 1) ≡ with_token (lines_in ts i) ts i
lines_next ts i = ap (λ (k : ℕ). lines_in ts k) (one i)
