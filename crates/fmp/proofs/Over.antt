-- Whether two names lead to one file.
use Rattle.std.proofs.Common.{◌≡◌, ◌≢◌, ◌⊎◌, inl, inr, ℕ, Bool, true, false, true≢false, IsTrue, IfSome, List, Option}
use Rattle.std.proofs.Common.{Some, subst, sym}
use Rattle.std.specs.Prelude.{IsFalse}
use Rattle.fmp_files.specs.Outside.{Files}
use Rattle.fmp.specs.Runs.{AreOne, CanBeOne}

module _ (files : Files) (name other : List ℕ) where
  said_as :
      (r one : Bool) → files.says_one name other ≡ Some one → IfSome (files.says_one name other) (λ one. r ≡ one)
      → r ≡ one
  said_as r one is said = subst (λ (o : Option Bool). IfSome o (λ one. r ≡ one)) is said

  -- where the answer is no, they lead to two
  pub two_files :
      (r : Bool) → (name ≡ other → IsTrue r) → IfSome (files.says_one name other) (λ one. r ≡ one) → IsFalse r
      → ¬ AreOne files name other
  two_files true equal said isnt are = absurd (true≢false isnt)
  two_files false equal said isnt (inl same) = absurd (true≢false (sym (equal same)))
  two_files false equal said isnt (inr is) = absurd (true≢false (sym (said_as false true is said)))

  -- where it is yes, they can lead to one
  pub one_file :
      (r : Bool) → IfSome (files.says_one name other) (λ one. r ≡ one) → IsTrue r → CanBeOne files name other
  one_file false said holds = absurd (true≢false (sym holds))
  one_file true said holds = inr (λ is. absurd (true≢false (said_as true false is said)))
