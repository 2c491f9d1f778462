use Rattle.std.proofs.Common.{◌≡◌, ◌∙◌, ◌++◌, ◌∷◌, ◌<◌, ◌≤◌, [], ℕ, List, Bool, Option, Some, None, MatchOption, Result, Ok, Err}
use Rattle.std.proofs.Common.{ap, arith, length, subst, sym, true}
use Rattle.std.proofs.lemmas.Result.{err_from_is_err_and}
use Rattle.fmp_base.specs.Systems.{SystemTables, tables_of}
use Rattle.fmp_monitors.specs.declared.condition.Condition.{Condition}
use Rattle.fmp_monitors.specs.declared.condition.ConditionTest.{ConditionTest}
use Rattle.fmp_expect.specs.declared.fault.ExpectationFlaw.{ExpectationFlaw}
use Rattle.fmp_expect.specs.Conditions.{condition_of, condition_with, next_tests, tests_of}
use Rattle.fmp_expect.specs.Parts.{and_then}
use Rattle.fmp_expect.specs.Words.{words_of}
use Rattle.fmp_expect.proofs.Tests.{Tests, full, joint_fault, last_test, next_test, after_none, test_fault}
use Rattle.fmp_expect.proofs.conditions.condition_in.Goals as goal

fits : (ts : List ConditionTest) (x : Condition) → x ≡ condition_with ts → x.count < 8 → length ts < 8
fits ts x is h = let same : x.count ≡ length ts = ap (λ (y : Condition). y.count) is in omega (arith, same, h)

fills : (ts : List ConditionTest) (x : Condition) → x ≡ condition_with ts → length ts ≤ 8 → 8 ≤ x.count
    → length ts ≡ 8
fills ts x is most h =
    let same : x.count ≡ length ts = ap (λ (y : Condition). y.count) is in omega (arith, same, most, h)

fault : (sys : SystemTables) (ws : List (List ℕ)) (e : ExpectationFlaw) → tests_of sys 8 true ws ≡ Err e
    → Err e ≡ condition_of sys ws
unfolding condition_of
fault sys ws e h = sym (ap (λ (r : Tests). and_then r (λ ts. Ok (condition_with ts))) h)

done : (sys : SystemTables) (ws : List (List ℕ)) (ts : List ConditionTest) → tests_of sys 8 true ws ≡ Ok ts
    → Ok (condition_with ts) ≡ condition_of sys ws
unfolding condition_of
done sys ws ts h = sym (ap (λ (r : Tests). and_then r (λ ts. Ok (condition_with ts))) h)

joined : {X : Type 0} (o : Option X) (v : X) (P : Type 0) (Q : X → Type 0) → o ≡ Some v → MatchOption o P Q → Q v
joined {X} o v P Q e m = let F : Option X → Type 0 = λ u. MatchOption u P Q in subst F e m

ended : {X : Type 0} (o : Option X) (P : Type 0) (Q : X → Type 0) → o ≡ None → MatchOption o P Q → P
ended {X} o P Q e m = let F : Option X → Type 0 = λ u. MatchOption u P Q in subst F e m

pub loop-condition-init : goal.loop-condition-init
loop-condition-init c = (
  [],
  c.no_condition-condition.ensures,
  record { room = 8; long = omega arith; is = after_none _ },
)

pub returns-in_err-test : goal.returns-in_err-test
returns-in_err-test c =
    let p = err_from_is_err_and c.from_residual.result c.from_residual.ensures.1 in
    let i = c.loop-condition.invariant in
    rw (p.1, p.2) (fault _ _ _ (test_fault _ i.0 _ _ _ i.2 _ (fits i.0 _ i.1 c.loop-condition-test.true)
    c.in_err-test.ensures.fault))

pub returns-in_err-next : goal.returns-in_err-next
returns-in_err-next c =
    let p = err_from_is_err_and c.from_residual-in_err-next.result c.from_residual-in_err-next.ensures.1 in
    let i = c.loop-condition.invariant in
    rw (p.1, p.2) (fault _ _ _ (joint_fault _ i.0 _ _ _ i.2 c.in_ok-test.test (words_of c.in_ok-test.after.now)
    (fits i.0 _ i.1 c.loop-condition-test.true) c.in_ok-test.ensures.read _ c.in_err-next.ensures.fault))

pub loop-condition-preserved : goal.loop-condition-preserved
loop-condition-preserved c =
    let i = c.loop-condition.invariant in
    let rest = words_of c.in_ok-test.after.now in (
      i.0 ++ c.in_ok-test.test ∷ [],
      c.with_test-condition.ensures i.0 i.1,
      next_test _ i.0 _ _ _ i.2 c.in_ok-test.test rest (fits i.0 _ i.1 c.loop-condition-test.true)
          c.in_ok-test.ensures.read c.in-Some.next (words_of c.in-Some.words.now)
          (λ m. joined c.in_ok-next.field-0 _ (next_tests m rest ≡ Ok [])
          (λ next. next_tests m rest ≡ m next.0 (words_of next.1.now)) c.in-Some.is (c.in_ok-next.ensures.joint m)),
    )

pub returns-in-None : goal.returns-in-None
returns-in-None c =
    let i = c.loop-condition.invariant in
    let rest = words_of c.in_ok-test.after.now in
    ap (λ (x : Condition). Ok x) (c.with_test-condition.ensures i.0 i.1)
    ∙ done _ _ _ (last_test _ i.0 _ _ _ i.2 c.in_ok-test.test rest (fits i.0 _ i.1 c.loop-condition-test.true)
    c.in_ok-test.ensures.read (λ m. ended c.in_ok-next.field-0 (next_tests m rest ≡ Ok [])
    (λ next. next_tests m rest ≡ m next.0 (words_of next.1.now)) c.in-None.is (c.in_ok-next.ensures.joint m)))

pub returns : goal.returns
returns c =
    let i = c.loop-condition.invariant in
    let most : length i.0 ≤ 8 = omega (arith, i.2.long) in
    ap (λ (e : ExpectationFlaw). Err e) c.flaw_at.ensures
    ∙ fault _ _ _ (full _ i.0 _ _ _ i.2 (fills i.0 _ i.1 most c.loop-condition-test.false))
