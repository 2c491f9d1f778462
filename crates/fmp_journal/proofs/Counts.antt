-- Counts of entries and marks.
use Rattle.std.proofs.Common.{◌≡◌, ◌≢◌, ℕ, ◌+◌, ◌==◌, cond, List, [], ◌∷◌, ◌++◌, length, refl, arith}
use Rattle.std.proofs.lemmas.Bool.Decides.{nat_tests}
use Rattle.fmp_journal.specs.declared.entry.JournalEntry.{JournalEntry}
use Rattle.fmp_journal.specs.Views.{own, times, without}

pub length-own : (n : ℕ) (xs : List JournalEntry) (x : JournalEntry) → length (own n (xs ++ x ∷ []))
    ≡ length (own n xs) + cond (x.seat == n) 1 0
length-own n [] x = grind (arith, nat_tests)
length-own n (y ∷ xs) x = let i = length-own n xs x in grind (arith, nat_tests)

pub times-snoc : (n : ℕ) (marks : List ℕ) (mark : ℕ) → times n (marks ++ mark ∷ []) ≡ times n marks
    + cond (mark == n) 1 0
times-snoc n [] mark = grind (arith, nat_tests)
times-snoc n (y ∷ marks) mark = let i = times-snoc n marks mark in grind (arith, nat_tests)

pub times-without : (n : ℕ) (marks : List ℕ) → times n (without n marks) ≡ 0
times-without n [] = refl
times-without n (y ∷ marks) = let i = times-without n marks in grind (arith, nat_tests)

pub times-without_else : (n j : ℕ) (marks : List ℕ) → j ≢ n → times j (without n marks) ≡ times j marks
times-without_else n j [] ne = refl
times-without_else n j (y ∷ marks) ne = let i = times-without_else n j marks ne in grind (arith, nat_tests)
