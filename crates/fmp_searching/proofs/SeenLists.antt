-- Lists from a place on: of what is printed with numbers, of sentences, and of tests.
use Rattle.std.proofs.Common.{◌≡◌, ℕ, suc, zero, min, ◌+◌, ◌<◌, ◌≤◌, List, [], ◌∷◌, ◌++◌, length, drop, get_or, take}
use Rattle.std.proofs.Common.{IfSome, Option, Some, Bool, true, cond, refl, ap, ◌∙◌, ◌&&◌, map, arith, nat_lt}
use Rattle.std.proofs.Common.{slice_get, subst}
use Rattle.std.specs.List.{AllZip, list_all}
use Rattle.fmp_expect.specs.declared.call_sentences.CallSentence.{CallSentence}
use Rattle.fmp_expect.specs.declared.expectation.Expected.{Expected}
use Rattle.fmp_schedules.specs.declared.monitor.Monitor.{Monitor}
use Rattle.fmp_searching.specs.Lines.{numbered}
use Rattle.fmp_witness.specs.declared.finding.Finding.{Finding}
use Rattle.fmp_witness.specs.declared.finding.FindingKind.{FindingKind}
use Rattle.fmp_searching.specs.Seen.{IsSeen, forbidding, forbids_answer, is_fitting}
use Rattle.fmp_searching.specs.Sources.{SourceTables}
use Rattle.fmp_searching.specs.Tests.{calls_between, is_between, section_kinds, sentence_kinds}
use Rattle.fmp_searching.specs.declared.call_sentences.Answer.{Answer}
use Rattle.fmp_searching.specs.declared.seen.Seen.{Seen}
use Rattle.fmp_searching.specs.declared.seen.SeenKind.TheVariants as kind

next : (i : ℕ) → suc (i + 1) ≡ suc i + 1
next i = omega arith

-- ---- texts with numbers

pub numbered_at : {A B : Type 0} (f : ℕ → A → B → List ℕ) (n : ℕ) (xs : List A) (ys : List B) (i : ℕ) (x : A) (y : B)
    → i < length xs → i < length ys
    → numbered f n (drop i xs) (drop i ys)
    ≡ f n (get_or xs i x) (get_or ys i y) ++ numbered f (n + 1) (drop (i + 1) xs) (drop (i + 1) ys)
numbered_at f n [] ys i x y h k = absurd (omega arith)
numbered_at f n (a ∷ aas) [] i x y h k = absurd (omega arith)
numbered_at f n (a ∷ aas) (b ∷ bs) zero x y h k = refl
numbered_at f n (a ∷ aas) (b ∷ bs) (suc i) x y h k =
    numbered_at f n aas bs i x y (omega arith) (omega arith)
    ∙ ap
    (λ m. f n (get_or aas i x) (get_or bs i y) ++ numbered f (n + 1) (drop m (a ∷ aas)) (drop m (b ∷ bs)))
    (next i)

pub numbered_end : {A B : Type 0} (f : ℕ → A → B → List ℕ) (n : ℕ) (xs : List A) (ys : List B) (i : ℕ)
    → min (length xs) (length ys) ≤ i → numbered f n (drop i xs) (drop i ys) ≡ []
numbered_end f n [] ys zero h = refl
numbered_end f n [] ys (suc i) h = refl
numbered_end {A} {B} f n (a ∷ aas) [] zero h = refl
numbered_end {A} {B} f n (a ∷ aas) [] (suc i) h = past (drop i aas)
  where
    past : (qs : List A) → numbered f n qs [] ≡ []
    past [] = refl
    past (q ∷ qs) = refl
numbered_end f n (a ∷ aas) (b ∷ bs) zero h = absurd (omega arith)
numbered_end f n (a ∷ aas) (b ∷ bs) (suc i) h = numbered_end f n aas bs i (omega arith)

-- ---- sentences and tests

pub forbidding_at_place : (line : ℕ) (a : Answer) (n : ℕ) (ss : List CallSentence) (i : ℕ) (x : CallSentence)
    → i < length ss
    → forbidding line a n (drop i ss)
    ≡ cond (forbids_answer line a (get_or ss i x)) (n ∷ []) [] ++ forbidding line a (n + 1) (drop (i + 1) ss)
forbidding_at_place line a n [] i x h = absurd (omega arith)
forbidding_at_place line a n (s ∷ ss) zero x h = refl
forbidding_at_place line a n (s ∷ ss) (suc i) x h =
    forbidding_at_place line a n ss i x (omega arith)
    ∙ ap
    (λ m. cond (forbids_answer line a (get_or ss i x)) (n ∷ []) [] ++ forbidding line a (n + 1) (drop m (s ∷ ss)))
    (next i)

pub calls_between_at : (after : ℕ) (before : Option ℕ) (n : ℕ) (ss : List CallSentence) (i : ℕ) (x : CallSentence)
    → i < length ss
    → calls_between after before n (drop i ss)
    ≡ cond (is_between after before (get_or ss i x).line) (kind.CallSentence n ∷ []) []
    ++ calls_between after before (n + 1) (drop (i + 1) ss)
calls_between_at after before n [] i x h = absurd (omega arith)
calls_between_at after before n (s ∷ ss) zero x h = refl
calls_between_at after before n (s ∷ ss) (suc i) x h =
    calls_between_at after before n ss i x (omega arith)
    ∙ ap
    (λ m. cond (is_between after before (get_or ss i x).line) (kind.CallSentence n ∷ []) []
    ++ calls_between after before (n + 1) (drop m (s ∷ ss)))
    (next i)

pub sentence_kinds_at : (calls : List CallSentence) (n after : ℕ) (xs : List Expected) (i : ℕ) (x : Expected)
    → i < length xs
    → sentence_kinds calls n after (drop i xs)
    ≡ calls_between after (Some (get_or xs i x).line) 0 calls
    ++ (kind.Sentence n ∷ sentence_kinds calls (n + 1) (get_or xs i x).line (drop (i + 1) xs))
sentence_kinds_at calls n after [] i x h = absurd (omega arith)
sentence_kinds_at calls n after (y ∷ ys) zero x h = refl
sentence_kinds_at calls n after (y ∷ ys) (suc i) x h =
    sentence_kinds_at calls n after ys i x (omega arith)
    ∙ ap
    (λ m. calls_between after (Some (get_or ys i x).line) 0 calls
    ++ (kind.Sentence n ∷ sentence_kinds calls (n + 1) (get_or ys i x).line (drop m (y ∷ ys))))
    (next i)

pub section_kinds_at : (sections n : ℕ) (ms : List Monitor) (i : ℕ) (x : Monitor) → i < length ms
    → section_kinds sections n (drop i ms)
    ≡ cond (nat_lt n sections) (kind.Alone n ∷ []) [] ++ section_kinds sections (n + 1) (drop (i + 1) ms)
section_kinds_at sections n [] i x h = absurd (omega arith)
section_kinds_at sections n (m ∷ ms) zero x h = refl
section_kinds_at sections n (m ∷ ms) (suc i) x h =
    section_kinds_at sections n ms i x (omega arith)
    ∙ ap (λ k. cond (nat_lt n sections) (kind.Alone n ∷ []) [] ++ section_kinds sections (n + 1) (drop k (m ∷ ms)))
    (next i)

-- ---- two lists, place by place

pub zip_more : {A B : Type 0} (R : A → B → Type 0) (xs : List A) (ys : List B) (i : ℕ) (y : B) → i < length xs
    → AllZip R (take i xs) ys → IfSome (slice_get xs i) (λ x. R x y) → AllZip R (take (i + 1) xs) (ys ++ y ∷ [])
zip_more R [] ys i y l h r = absurd (omega arith)
zip_more R (x ∷ xs) [] zero y l h r = (r, tt)
zip_more R (x ∷ xs) (b ∷ bs) zero y l h r = absurd h
zip_more R (x ∷ xs) [] (suc i) y l h r = absurd h
zip_more R (x ∷ xs) (b ∷ bs) (suc i) y l h r =
    subst (λ (m : ℕ). AllZip R (take m (x ∷ xs)) (b ∷ (bs ++ y ∷ []))) (next i)
    (h.0, zip_more R xs bs i y (omega arith) h.1 r)

pub seen_found : (s : SourceTables) (fs : List Finding) (xs : List Seen) → AllZip (IsSeen s) fs xs
    → map (λ x. x.found) xs ≡ map (λ f. f.kind) fs
seen_found s [] [] h = refl
seen_found s [] (x ∷ xs) h = absurd h
seen_found s (f ∷ fs) [] h = absurd h
seen_found s (f ∷ fs) (x ∷ xs) h =
    ap (λ (k : FindingKind). k ∷ map (λ x. x.found) xs) h.0.found
    ∙ ap (λ (ks : List FindingKind). f.kind ∷ ks) (seen_found s fs xs h.1)

pub seen_broken : (s : SourceTables) (fs : List Finding) (xs : List Seen) → AllZip (IsSeen s) fs xs
    → list_all (λ x. is_fitting s.sections x) xs ≡ true
seen_broken s [] [] h = refl
seen_broken s [] (x ∷ xs) h = absurd h
seen_broken s (f ∷ fs) [] h = absurd h
seen_broken s (f ∷ fs) (x ∷ xs) h =
    ap (λ (b : Bool). b && list_all (λ x. is_fitting s.sections x) xs) h.0.broken ∙ seen_broken s fs xs h.1
