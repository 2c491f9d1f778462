-- The first run that fails, of seeds that are tried in parts or in rounds.
use Rattle.std.proofs.Common.{◌≡◌, ◌∙◌, ◌+◌, ◌-◌, ◌*◌, ◌<◌, ◌≤◌, ℕ, List, [], ◌∷◌, Option, Some, None, Result, Ok, Err}
use Rattle.std.proofs.Common.{IfOk, ap, arith, false, inl, inr, length, min, subst, suc, sym}
use Rattle.std.proofs.lemmas.Bool.{cases_order}
use Rattle.std.proofs.lemmas.Grind.{div_ceil_times}
use Rattle.std.specs.Int.{div_ceil}
use Rattle.std.specs.Prelude.{slice_index_or}
use Rattle.fmp_instructions.specs.Machine.{code_meaning}
use Rattle.fmp_trials.specs.declared.seeds.Seeds.{Seeds}
use Rattle.fmp_trials.specs.declared.testing.FailedTrial.{FailedTrial}
use Rattle.fmp_trials.specs.declared.testing.FailingSeed.{FailingSeed}
use Rattle.fmp_trials.specs.Drawn.{AllHaveMet, any_of_end}
use Rattle.fmp_trials.specs.Found.{IsFound, IsShortened}
use Rattle.fmp_trials.specs.Parts.{edge, first_of}
use Rattle.fmp_looking.specs.declared.trying.Trials.{Trials}
use Rattle.fmp_looking.specs.CallSentences.{breaks_by}
use Rattle.fmp_looking.specs.Tested.{AreFirstOf, IsFirstOf, subject_in}

plus_none : (k : ℕ) → k + 0 ≡ k
plus_none k = omega arith

plus_one : (k : ℕ) → k + 0 + 1 ≡ k + 1
plus_one k = omega arith

none_plus : (j : ℕ) → j ≡ 0 + j
none_plus j = omega arith

later : (k j : ℕ) → k + suc j ≡ k + 1 + j
later k j = omega arith

later_end : (k j : ℕ) → k + suc j + 1 ≡ k + 1 + j + 1
later_end k j = omega arith

ends : (k n parts : ℕ) → k + suc n ≡ parts → k + 1 + n ≡ parts
ends k n parts is = omega (arith, is)

-- where parts of seeds begin and end
beyond : (b l x n : ℕ) → min (b + x) l < n → n ≤ l → b < n
beyond b l x n after last = omega (arith, after, last)

at_end : (b l x : ℕ) → l - b ≤ x → min (b + x) l ≡ l
at_end b l x enough = omega (arith, enough)

bounded : (b l x : ℕ) → min (b + x) l ≤ l
bounded b l x = omega arith

not_beyond : (seeds : Seeds) (parts k : ℕ) → edge seeds parts k ≤ seeds.last
not_beyond seeds parts k = bounded seeds.before seeds.last (k * div_ceil (seeds.last - seeds.before) parts)

first_edge : (seeds : Seeds) (parts : ℕ) → edge seeds parts 0 ≤ seeds.before
first_edge seeds parts = omega arith

last_edge : (seeds : Seeds) (parts : ℕ) → 0 < parts → edge seeds parts parts ≡ seeds.last
last_edge seeds parts some =
    let each = div_ceil (seeds.last - seeds.before) parts in
    let enough = (div_ceil_times (seeds.last - seeds.before) parts some).0 in
    at_end seeds.before seeds.last (parts * each) (grind (arith, enough))

after_edge : (seeds : Seeds) (parts k n : ℕ) → edge seeds parts k < n → n ≤ seeds.last → seeds.before < n
after_edge seeds parts k n after last =
    beyond seeds.before seeds.last (k * div_ceil (seeds.last - seeds.before) parts) n after last

module _ (t : Trials) where
  abbrev pub Met : (before last : ℕ) → Type 0
  Met before last =
      any_of_end t.expected.now ≡ false → AllHaveMet code_meaning breaks_by (subject_in t) t.plan before last

  -- no seeds
  pub none_met : (before last : ℕ) → last ≤ before → Met before last
  none_met before last none = λ _ seed after within. absurd (omega (arith, none, after, within))

  -- seeds, and those after them
  pub both_met : (before middle last : ℕ) → Met before middle → Met middle last → Met before last
  both_met before middle last h k = λ endless seed after within. elim (cases_order seed middle) [
    | inl same ↦ h endless seed after (omega (arith, same))
    | inr o ↦ elim o [
      | inl below ↦ h endless seed after (omega (arith, below))
      | inr above ↦ k endless seed above within
    ]
  ]

  -- some of them
  pub fewer_met : (before many few : ℕ) → few ≤ many → Met before many → Met before few
  fewer_met before many few h met = λ endless seed after within.
      met endless seed after (omega (arith, h, within))

  -- a seed that is the first of some is the first of more, where all before these met what is expected
  pub first_of_more : (before middle end last : ℕ) (f : FailingSeed) → Met before middle → before < f.seed → end ≤ last
      → IsFirstOf t middle end (Some f) → IsFirstOf t before last (Some f)
  first_of_more before middle end last f met after most is =
      let within : f.seed ≤ end = is.last in
      record {
        fails = is.fails;
        run = is.run;
        after = after;
        last = omega (arith, within, most);
        first = both_met before middle (f.seed - 1) met is.first;
      }

  module _ {E : Type 0} (seeds : Seeds) (parts : ℕ) (some : 0 < parts) where
    abbrev AreFrom : (k : ℕ) → List (Result (Option FailingSeed) E) → Type 0
    AreFrom k found =
        (j : ℕ) (d : Result (Option FailingSeed) E) → j < length found
        → IfOk (slice_index_or found j d) (IsFirstOf t (edge seeds parts (k + j)) (edge seeds parts (k + j + 1)))

    after_one : (k : ℕ) (r : Result (Option FailingSeed) E) (found : List (Result (Option FailingSeed) E))
        → AreFrom k (r ∷ found) → AreFrom (k + 1) found
    after_one k r found all = λ j d few.
        subst
        (λ (a : ℕ). IfOk (slice_index_or found j d)
        (IsFirstOf t (edge seeds parts a) (edge seeds parts (k + 1 + j + 1))))
        (later k j)
        (subst
        (λ (z : ℕ). IfOk (slice_index_or found j d)
        (IsFirstOf t (edge seeds parts (k + suc j)) (edge seeds parts z))) (later_end k j)
        (all (suc j) d (omega (arith, few))))

    here : (k : ℕ) (r : Result (Option FailingSeed) E) (found : List (Result (Option FailingSeed) E))
        → AreFrom k (r ∷ found) → IfOk r (IsFirstOf t (edge seeds parts k) (edge seeds parts (k + 1)))
    here k r found all =
        subst (λ (a : ℕ). IfOk r (IsFirstOf t (edge seeds parts a) (edge seeds parts (k + 1)))) (plus_none k)
        (subst (λ (z : ℕ). IfOk r (IsFirstOf t (edge seeds parts (k + 0)) (edge seeds parts z))) (plus_one k)
        (all 0 r (omega arith)))

    first_from : (k : ℕ) (found : List (Result (Option FailingSeed) E)) → AreFrom k found → k + length found ≡ parts
        → Met seeds.before (edge seeds parts k) → IfOk (first_of found) (IsFirstOf t seeds.before seeds.last)
    first_from k [] all end met =
        subst (λ (n : ℕ). Met seeds.before n)
        (ap (λ (n : ℕ). edge seeds parts n) (sym (plus_none k) ∙ end) ∙ last_edge seeds parts some) met
    first_from k (Err e ∷ found) all end met = tt
    first_from k (Ok (Some f) ∷ found) all end met =
        let is : IsFirstOf t (edge seeds parts k) (edge seeds parts (k + 1)) (Some f) =
        here k (Ok (Some f)) found all in
        let after : edge seeds parts k < f.seed = is.after in
        let high : f.seed ≤ edge seeds parts (k + 1) = is.last in
        let most : edge seeds parts (k + 1) ≤ seeds.last = not_beyond seeds parts (k + 1) in
        first_of_more seeds.before (edge seeds parts k) (edge seeds parts (k + 1)) seeds.last f met
        (after_edge seeds parts k f.seed after (omega (arith, high, most))) most is
    first_from k (Ok None ∷ found) all end met =
        first_from (k + 1) found (after_one k (Ok None) found all) (ends k (length found) parts end)
        (both_met seeds.before (edge seeds parts k) (edge seeds parts (k + 1)) met (here k (Ok None) found all))

    -- the first of all parts
    pub first_of_parts : (found : List (Result (Option FailingSeed) E)) → AreFirstOf t seeds parts found
        → IfOk (first_of found) (IsFirstOf t seeds.before seeds.last)
    first_of_parts found are =
        first_from 0 found
        (λ j d few. subst
        (λ (i : ℕ). IfOk (slice_index_or found j d) (IsFirstOf t (edge seeds parts i) (edge seeds parts (i + 1))))
        (none_plus j) (are.1 j d (omega (arith, few, are.0))))
        (omega (arith, are.0)) (none_met seeds.before (edge seeds parts 0) (first_edge seeds parts))

  -- the first of a round, after rounds in which none was found
  pub first_of_round : (before begin end last : ℕ) (f : FailingSeed) → Met 0 before → begin ≡ before → end ≤ last
      → IsFirstOf t begin end (Some f) → IsFirstOf t 0 last (Some f)
  first_of_round before begin end last f met same most is =
      let after : begin < f.seed = is.after in
      first_of_more 0 begin end last f (subst (λ (n : ℕ). Met 0 n) (sym same) met) (omega (arith, after)) most is

  -- after one round more
  pub after_round : (before begin end next : ℕ) → Met 0 before → begin ≡ before → next ≡ end → Met begin end
      → Met 0 next
  after_round before begin end next met same is h =
      subst (λ (n : ℕ). Met 0 n) (sym is)
      (both_met 0 begin end (subst (λ (n : ℕ). Met 0 n) (sym same) met) h)

  -- after the last one
  pub after_rounds : (before last : ℕ) → last ≤ before → Met 0 before → Met 0 last
  after_rounds before last enough met = fewer_met 0 before last enough met

  pub is_found : (last n : ℕ) (f : FailingSeed) (r : FailedTrial) → IsFirstOf t 0 n (Some f)
      → IsShortened code_meaning breaks_by (subject_in t) f r → n ≡ last
      → IsFound code_meaning breaks_by (subject_in t) t.plan last r
  is_found last n f r is shortened same =
      record {
        failing = f;
        is = subst (λ (m : ℕ). IsFirstOf t 0 m (Some f)) same is;
        shortened = shortened;
      }

-- a round without seeds is after the last one
pub no_more : (before last begin end count : ℕ) → begin ≡ before → (before < last → before < end) → count ≡ end - begin
    → count ≡ 0 → last ≤ before
no_more before last begin end count same some is none = elim (cases_order before last) [
  | inl equal ↦ omega (arith, equal)
  | inr o ↦ elim o [
    | inl below ↦ let more : before < end = some below in absurd (omega (arith, more, same, is, none))
    | inr above ↦ omega (arith, above)
  ]
]
