-- Findings from a place on, and tests of two suites.
use Rattle.std.proofs.Common.{◌≡◌, ℕ, suc, zero, ◌+◌, ◌<◌, List, [], ◌∷◌, ◌++◌, length, drop, get_or, cond, Some, map}
use Rattle.std.proofs.Common.{Bool, true, refl, sym, ap, ◌∙◌, arith, nat_lt}
use Rattle.std.proofs.lemmas.Bool.Decides.{nat_tests}
use Rattle.std.proofs.lemmas.List.{map-append}
use Rattle.fmp_explore.specs.declared.exploring.Report.{Report}
use Rattle.fmp_searching.specs.Seen.{is_broken}
use Rattle.fmp_searching.specs.Sources.{SourceTables}
use Rattle.fmp_searching.specs.Tests.{AreJudged, IsReportOf, IsTestReport, asked_kinds, first_of, other_kinds}
use Rattle.fmp_searching.specs.Tests.{outcome_of, sentence_kinds, wanted_test}
use Rattle.fmp_searching.specs.declared.judging.JudgedTest.{JudgedTest}
use Rattle.fmp_searching.specs.declared.judging.TestOutcome.{TestOutcome}
use Rattle.fmp_searching.specs.declared.seen.Seen.{Seen}
use Rattle.fmp_searching.specs.declared.seen.SeenKind.{SeenKind}

next : (i : ℕ) → suc (i + 1) ≡ suc i + 1
next i = omega arith

pub first_of_at : (asked : SeenKind) (n : ℕ) (seen : List Seen) (i : ℕ) (x : Seen) → i < length seen
    → first_of asked n (drop i seen)
    ≡ cond (is_broken asked (get_or seen i x)) (Some n) (first_of asked (n + 1) (drop (i + 1) seen))
first_of_at asked n [] i x h = absurd (omega arith)
first_of_at asked n (s ∷ seen) zero x h = refl
first_of_at asked n (s ∷ seen) (suc i) x h =
    first_of_at asked n seen i x (omega arith)
    ∙ ap
    (λ k. cond (is_broken asked (get_or seen i x)) (Some n) (first_of asked (n + 1) (drop k (s ∷ seen))))
    (next i)

-- there is something where a length is not 0
long : (n : ℕ) → 0 < n → nat_lt 0 n ≡ true
long n h = grind (arith, nat_tests, h)

-- the tests of the sentences of a file, and the others, are all that is asked
pub asked_both : (s : SourceTables) (xs ys : List SeenKind) → 0 < length s.file
    → xs ≡ sentence_kinds s.call_sentences s.sections 0 s.expected → ys ≡ other_kinds s → xs ++ ys ≡ asked_kinds s
asked_both s xs ys named h k =
    ap (λ (l : List SeenKind). l ++ ys) h
    ∙ ap (λ (l : List SeenKind). sentence_kinds s.call_sentences s.sections 0 s.expected ++ l) k
    ∙ ap
    (λ (b : Bool). cond b (sentence_kinds s.call_sentences s.sections 0 s.expected) [] ++ other_kinds s)
    (sym (long (length s.file) named))

pub two_suites : (s : SourceTables) (r : Report) (seen : List Seen) (xs ys : List JudgedTest) (out : List ℕ)
    → map (λ t. t.kind) xs ++ map (λ t. t.kind) ys ≡ asked_kinds s
    → AreJudged s.strict s.claim.question r seen xs → AreJudged s.strict s.claim.question r seen ys
    → IsReportOf (map wanted_test xs ++ map wanted_test ys) out → IsTestReport s r seen out
two_suites s r seen xs ys out kinds h k is =
    record {
      tests = xs ++ ys;
      asked = map-append (λ t. t.kind) xs ys ∙ kinds;
      judged =
          map-append (λ t. t.outcome) xs ys
          ∙ ap (λ (l : List TestOutcome). l ++ map (λ t. t.outcome) ys) h
          ∙ ap (λ (l : List TestOutcome). map (λ t. outcome_of s.strict s.claim.question r seen t.kind) xs ++ l) k
          ∙ sym (map-append (λ t. outcome_of s.strict s.claim.question r seen t.kind) xs ys);
      suites = is.suites;
      counted = is.are ∙ sym (map-append wanted_test xs ys);
      text = is.text;
    }
