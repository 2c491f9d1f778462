-- Names that lead to different files.
use Rattle.std.proofs.Common.{◌≡◌, ℕ, Bool, true, false, true≢false, IsTrue, IfSome, List, Option, subst, sym}
use Rattle.fmp_files.specs.Outside.{Files}
use Rattle.fmp_view.specs.Apart.{AreApart}

-- where the answer is no, two names lead to two files
pub are_apart : (files : Files) (name other : List ℕ) (one : Bool) → (name ≡ other → IsTrue one)
    → IfSome (files.says_one name other) (λ said. one ≡ said) → one ≡ false → AreApart files name other
are_apart files name other true equal said isnt = absurd (true≢false isnt)
are_apart files name other false equal said isnt =
    record {
      names = λ same. true≢false (sym (equal same));
      said = λ is. true≢false (sym (subst (λ (o : Option Bool). IfSome o (λ one. false ≡ one)) is said));
    }
