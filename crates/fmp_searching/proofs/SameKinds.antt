-- What is the same as itself.
use Rattle.std.proofs.Common.{◌≡◌, ◌==◌, ℕ, Bool, true, arith, refl}
use Rattle.std.proofs.lemmas.Bool.Decides.{nat_tests}
use Rattle.fmp_searching.specs.Seen.{is_same}
use Rattle.fmp_searching.specs.declared.seen.SeenKind.{SeenKind}
use Rattle.fmp_searching.specs.declared.seen.SeenKind.TheVariants as kind

equal_self : (n : ℕ) → (n == n) ≡ true
equal_self n = grind (arith, nat_tests)

pub same_self : (k : SeenKind) → is_same k k ≡ true
same_self kind.Never = refl
same_self kind.Fault = refl
same_self (kind.Alone place) = equal_self place
same_self (kind.Sentence place) = equal_self place
same_self (kind.CallSentence place) = equal_self place
same_self kind.Deadlock = refl
same_self kind.Endless = refl
same_self kind.Stuck = refl
