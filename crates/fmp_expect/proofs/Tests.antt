-- The tests of a condition, one after the other.
use Rattle.std.proofs.Common.{◌≡◌, ◌∙◌, ℕ, suc, ◌+◌, ◌-◌, ◌<◌, List, [], ◌∷◌, ◌++◌, Bool, Result, Ok, Err, ap, sym, refl, arith}
use Rattle.std.proofs.lemmas.List.{append-nil}
use Rattle.std.proofs.Common.{append_assoc, length, length-append, replicate, set}
use Rattle.std.proofs.Math.Seq.{set-append_seam}
use Rattle.fmp_base.specs.Systems.{SystemTables}
use Rattle.fmp_monitors.specs.declared.condition.Condition.{Condition}
use Rattle.fmp_monitors.specs.declared.condition.ConditionTest.{ConditionTest}
use Rattle.fmp_expect.specs.declared.fault.Expects.TheVariants as expects
use Rattle.fmp_expect.specs.declared.fault.ExpectationFlaw.{ExpectationFlaw}
use Rattle.fmp_expect.specs.Conditions.{condition_with, in_front, no_test, test_of, next_tests, tests_of}
use Rattle.fmp_expect.specs.Parts.{Read, and_then, flaw_at}

abbrev pub Tests : Type 0
Tests = Result (List ConditionTest) ExpectationFlaw

-- tests in front of what was read, or the flaw
abbrev pub after_tests : List ConditionTest → Tests → Tests
after_tests ts (Ok us) = Ok (ts ++ us)
after_tests ts (Err e) = Err e

pub after_none : (r : Tests) → after_tests [] r ≡ r
after_none (Ok us) = refl
after_none (Err e) = refl

one_more : (ts : List ConditionTest) (t : ConditionTest) (r : Tests)
    → after_tests ts (in_front t r) ≡ after_tests (ts ++ t ∷ []) r
one_more ts t (Ok us) = ap (λ (all : List ConditionTest). Ok all) (sym (append_assoc ts (t ∷ []) us))
one_more ts t (Err e) = refl

-- these tests were read, and the words that are left are read into the rest of all
pub record IsReading (sys : SystemTables) (ts : List ConditionTest) (alternative : Bool) (ws : List (List ℕ))
    (all : Tests) : Type 0 where
  pub room : ℕ
  pub long : length ts + room ≡ 8
  pub is : after_tests ts (tests_of sys room alternative ws) ≡ all

module _ (sys : SystemTables) (ts : List ConditionTest) (alternative : Bool) (ws : List (List ℕ)) (all : Tests)
    (reading : IsReading sys ts alternative ws all) where
  left : (room k : ℕ) → room ≡ suc k → tests_of sys room alternative ws
      ≡ and_then (test_of sys alternative ws) (λ t. in_front t.value (next_tests (tests_of sys k) t.rest))
  unfolding tests_of
  left room k e = ap (λ (n : ℕ). tests_of sys n alternative ws) e

  one_left : length ts < 8 → reading.room ≡ suc (reading.room - 1)
  one_left h = omega (arith, reading.long, h)

  -- what is read where one more test fits
  next : length ts < 8 → after_tests ts (and_then (test_of sys alternative ws) (λ t.
      in_front t.value (next_tests (tests_of sys (reading.room - 1)) t.rest))) ≡ all
  next h = ap (after_tests ts) (sym (left reading.room (reading.room - 1) (one_left h))) ∙ reading.is

  -- no test is read
  pub test_fault : (e : ExpectationFlaw) → length ts < 8 → test_of sys alternative ws ≡ Err e → all ≡ Err e
  test_fault e h is =
      sym (next h) ∙ ap (λ (r : Result (Read ConditionTest) ExpectationFlaw). after_tests ts (and_then r (λ t.
      in_front t.value (next_tests (tests_of sys (reading.room - 1)) t.rest)))) is

  module _ (t : ConditionTest) (rest : List (List ℕ)) (h : length ts < 8)
      (is : test_of sys alternative ws ≡ Ok (record { value = t; rest = rest })) where
    read_one : after_tests (ts ++ t ∷ []) (next_tests (tests_of sys (reading.room - 1)) rest) ≡ all
    read_one =
        sym (one_more ts t (next_tests (tests_of sys (reading.room - 1)) rest))
        ∙ sym (ap (λ (r : Result (Read ConditionTest) ExpectationFlaw). after_tests ts (and_then r (λ t.
        in_front t.value (next_tests (tests_of sys (reading.room - 1)) t.rest)))) is)
        ∙ next h

    -- no `and` or `or` stands after it
    pub joint_fault : (e : ExpectationFlaw)
        → ((more : Bool → List (List ℕ) → Tests) → next_tests more rest ≡ Err e) → all ≡ Err e
    joint_fault e fault =
        sym read_one ∙ ap (after_tests (ts ++ t ∷ [])) (fault (tests_of sys (reading.room - 1)))

    -- it is the last one
    pub last_test : ((more : Bool → List (List ℕ) → Tests) → next_tests more rest ≡ Ok [])
        → all ≡ Ok (ts ++ t ∷ [])
    last_test end =
        sym read_one ∙ ap (after_tests (ts ++ t ∷ [])) (end (tests_of sys (reading.room - 1)))
        ∙ ap (λ (us : List ConditionTest). Ok us) (append-nil (ts ++ t ∷ []))

    -- another one follows
    pub next_test : (other : Bool) (words : List (List ℕ))
        → ((more : Bool → List (List ℕ) → Tests) → next_tests more rest ≡ more other words)
        → IsReading sys (ts ++ t ∷ []) other words all
    next_test other words more = record {
      room = reading.room - 1;
      long = simp length-append (omega (arith, reading.long, h));
      is = sym (ap (after_tests (ts ++ t ∷ [])) (more (tests_of sys (reading.room - 1)))) ∙ read_one;
    }

  no_room : (room : ℕ) → room ≡ 0 → after_tests ts (tests_of sys room alternative ws) ≡ all
      → all ≡ Err (flaw_at expects.FewerTests ws)
  unfolding tests_of
  no_room room e is = sym is ∙ ap (λ (n : ℕ). after_tests ts (tests_of sys n alternative ws)) e

  -- 8 tests were read, and another one follows
  pub full : length ts ≡ 8 → all ≡ Err (flaw_at expects.FewerTests ws)
  full h = no_room reading.room (omega (arith, reading.long, h)) reading.is

-- the condition of one more test
pub with_one : (ts : List ConditionTest) (t : ConditionTest) → length ts < 8
    → set (condition_with ts).tests (length ts) t ≡ (condition_with (ts ++ t ∷ [])).tests
with_one ts t h =
    let more : 8 - length ts ≡ suc (7 - length ts) = omega (arith, h) in
    let less : 7 - length ts ≡ 8 - length (ts ++ t ∷ []) = simp length-append (omega (arith, h)) in
    ap (λ (n : ℕ). set (ts ++ replicate n no_test) (length ts) t) more
    ∙ set-append_seam ts no_test (replicate (7 - length ts) no_test) t
    ∙ sym (append_assoc ts (t ∷ []) (replicate (7 - length ts) no_test))
    ∙ ap (λ (n : ℕ). (ts ++ t ∷ []) ++ replicate n no_test) less
