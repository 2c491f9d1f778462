use Rattle.std.proofs.Common.{◌≡◌, ◌-◌, ◌<◌, ◌≤◌, ℕ, Some, length, slice_get}
use Rattle.fmp_lex.specs.declared.token.Token.{Token}
use Rattle.fmp_server.proofs.roles.begun_at.Given as goal

abbrev pub invariant-halves : goal.invariant-halves
invariant-halves l = record {
  halves : l.low ≤ l.high;
  within : l.high ≤ length l.tokens;
  begun : (k : ℕ) (t : Token) → k < l.low → slice_get l.tokens k ≡ Some t → t.start ≤ l.offset;
  others : (k : ℕ) (t : Token) → l.high ≤ k → slice_get l.tokens k ≡ Some t → l.offset < t.start;
}

abbrev pub decreases-halves : goal.decreases-halves
decreases-halves l = l.high - l.low
