-- Stamps that are counted for the lines of an event.
use Rattle.std.specs.Prelude.{slice_set}
use Rattle.std.proofs.Common.{◌≡◌, ℕ, zero, suc, ◌+◌, ◌<◌, ◌≤◌, ◌^◌, List, [], ◌∷◌, Option, Some, None, Bool, true}
use Rattle.std.proofs.Common.{false, nat_lt, nat_eq, length, drop, get_or, refl, sym, subst, ap, ◌∙◌, arith}
use Rattle.std.proofs.Common.{get_or-set_other, get_or-set_same, if◌then◌else◌}
use Rattle.std.proofs.Math.ListN.{get_or-eq_default, length-set}
use Rattle.std.proofs.lemmas.Bool.{eqb-true}
use Rattle.std.proofs.lemmas.Bool.Decides.{nat_tests}
use Rattle.fmp_base.specs.declared.events.Line.{Line}
use Rattle.fmp_base.specs.Settles.{is_same_task}
use Rattle.fmp_worlds.specs.Stamps.{one_if}
use Rattle.fmp_kernel.specs.Stamps.{AreCounted, AreRaised, given_by, none_if, raised, raised_unless, times_counted}
use Rattle.fmp_kernel.specs.Stamps.{times_given, times_raised}

one_few : (b : Bool) → one_if b ≤ 1
one_few true = omega arith
one_few false = omega arith

none_zero : (b : Bool) → none_if b zero ≡ zero
none_zero true = refl
none_zero false = refl

none_sum : (b : Bool) (m n : ℕ) → none_if b (m + n) ≡ none_if b m + none_if b n
none_sum true m n = refl
none_sum false m n = refl

none_few : (b : Bool) (n : ℕ) → none_if b n ≤ n
none_few true n = omega arith
none_few false n = omega arith

pub given_few : (p : ℕ) (ls : List Line) → times_given p ls ≤ length ls
given_few p [] = omega arith
given_few p (l ∷ ls) =
    let one = one_few (is_same_task (given_by l) (Some p)) in let rest = given_few p ls in omega (arith, one, rest)

raised_few_times : (ran : Option ℕ) (ls : List Line) (p : ℕ) → times_raised ran ls p ≤ length ls
raised_few_times ran ls p =
    let a = none_few (is_same_task ran (Some p)) (times_given p ls) in let b = given_few p ls in omega (arith, a, b)

-- p after q was counted once more
raised_at : (stamps : List ℕ) (q p : ℕ) → p < length stamps → get_or (raised stamps (Some q)) p 0 ≡ get_or stamps p 0
    + one_if (nat_eq q p)
raised_at stamps q p l = by_test (nat_eq q p) refl where
  by_test : (b : Bool) → nat_eq q p ≡ b → get_or (raised stamps (Some q)) p 0 ≡ get_or stamps p 0 + one_if b
  by_test true e =
      subst (λ (v : ℕ). get_or (raised stamps (Some q)) v 0 ≡ get_or stamps v 0 + 1) (eqb-true q p e)
      (get_or-set_same stamps q _ 0 (subst (λ (v : ℕ). v < length stamps) (sym (eqb-true q p e)) l))
  by_test false e =
      let n : p ≡ q → ⊥ = λ (z : p ≡ q). absurd (grind (arith, nat_tests, z, e)) in
      let same : get_or (raised stamps (Some q)) p 0 ≡ get_or stamps p 0 = get_or-set_other stamps q p _ 0 n in
      omega (arith, same)

pub raised_long : (stamps : List ℕ) (o : Option ℕ) → length (raised stamps o) ≡ length stamps
raised_long stamps None = refl
raised_long stamps (Some q) = length-set _ _ _

pub raised_run : (stamps : List ℕ) (ran : Option ℕ) (p : ℕ) → p < length stamps
    → get_or (raised stamps ran) p 0 ≡ get_or stamps p 0 + one_if (is_same_task ran (Some p))
raised_run stamps None p l = omega arith
raised_run stamps (Some q) p l = raised_at stamps q p l

pub raised_few : (stamps : List ℕ) (ran : Option ℕ) → ((p : ℕ) → get_or stamps p 0 < 2 ^ 31) → (p : ℕ)
    → get_or (raised stamps ran) p 0 ≤ 2 ^ 31
raised_few stamps ran few p = by_test (nat_lt p (length stamps)) refl where
  by_test : (b : Bool) → nat_lt p (length stamps) ≡ b → get_or (raised stamps ran) p 0 ≤ 2 ^ 31
  by_test true e =
      let now = raised_run stamps ran p (grind (arith, nat_tests, e)) in
      let one = one_few (is_same_task ran (Some p)) in
      let was = few p in
      omega (arith, now, one, was)
  by_test false e =
      let long = raised_long stamps ran in
      let l : length (raised stamps ran) ≤ p = grind (arith, nat_tests, e, long) in
      let none = get_or-eq_default (raised stamps ran) 0 l in
      omega (arith, none)

unless_long : (b : Bool) (stamps : List ℕ) (q : ℕ) → length (if b then stamps else raised stamps (Some q))
    ≡ length stamps
unless_long true stamps q = refl
unless_long false stamps q = length-set _ _ _

raised_unless_long : (ran : Option ℕ) (stamps : List ℕ) (o : Option ℕ) → length (raised_unless ran stamps o)
    ≡ length stamps
raised_unless_long ran stamps None = refl
raised_unless_long ran stamps (Some q) = unless_long (is_same_task ran (Some q)) stamps q

-- p after a line gave this processor another actor, if any
raised_by : (ran : Option ℕ) (stamps : List ℕ) (o : Option ℕ) (p : ℕ) → p < length stamps
    → get_or (raised_unless ran stamps o) p 0 ≡ get_or stamps p 0
    + none_if (is_same_task ran (Some p)) (one_if (is_same_task o (Some p)))
raised_by ran stamps None p l = let none = none_zero (is_same_task ran (Some p)) in omega (arith, none)
raised_by ran stamps (Some q) p l = by_test (is_same_task ran (Some q)) refl (nat_eq q p) refl where
  by_test : (b : Bool) → is_same_task ran (Some q) ≡ b → (c : Bool) → nat_eq q p ≡ c
      → get_or (if b then stamps else raised stamps (Some q)) p 0 ≡ get_or stamps p 0
      + none_if (is_same_task ran (Some p)) (one_if c)
  by_test b e false g = by_ran b where
    none : none_if (is_same_task ran (Some p)) (one_if false) ≡ zero
    none = none_zero (is_same_task ran (Some p))

    by_ran : (b : Bool) → get_or (if b then stamps else raised stamps (Some q)) p 0 ≡ get_or stamps p 0
        + none_if (is_same_task ran (Some p)) (one_if false)
    by_ran true = omega (arith, none)
    by_ran false =
        let now : get_or (raised stamps (Some q)) p 0 ≡ get_or stamps p 0
        + one_if (nat_eq q p) = raised_at stamps q p l in
        let off : one_if (nat_eq q p) ≡ zero = ap one_if g in
        omega (arith, none, now, off)
  by_test true e true g =
      let here : is_same_task ran (Some p) ≡ true = subst (λ (v : ℕ). is_same_task ran (Some v) ≡ true)
      (eqb-true q p g) e in
      let none : none_if (is_same_task ran (Some p)) (one_if true)
      ≡ zero = ap (λ (b : Bool). none_if b (one_if true)) here in
      omega (arith, none)
  by_test false e true g =
      let here : is_same_task ran (Some p) ≡ false = subst (λ (v : ℕ). is_same_task ran (Some v) ≡ false)
      (eqb-true q p g) e in
      let one : none_if (is_same_task ran (Some p)) (one_if true)
      ≡ 1 = ap (λ (b : Bool). none_if b (one_if true)) here in
      let now : get_or (raised stamps (Some q)) p 0 ≡ get_or stamps p 0
      + one_if (nat_eq q p) = raised_at stamps q p l in
      let on : one_if (nat_eq q p) ≡ 1 = ap one_if g in
      omega (arith, one, now, on)

-- the stamps once the lines before these were counted
pub record Rising (old now : List ℕ) (ran : Option ℕ) (lines rest : List Line) : Type 0 where
  pub long : length now ≡ length old
  pub each : (p : ℕ) → p < length old → get_or now p 0 + times_raised ran rest p ≡ get_or old p 0
      + times_raised ran lines p

pub rising_first : (old : List ℕ) (ran : Option ℕ) (lines : List Line) → Rising old old ran lines lines
rising_first old ran lines = record { long = refl; each = λ p l. refl }

pub rising_on : (old now : List ℕ) (ran : Option ℕ) (lines : List Line) (l : Line) (rest : List Line)
    → Rising old now ran lines (l ∷ rest)
    → Rising old (raised_unless ran now (given_by l)) ran lines rest
rising_on old now ran lines l rest h =
    record { long = raised_unless_long ran now (given_by l) ∙ h.long; each = each } where
      each : (p : ℕ) → p < length old
          → get_or (raised_unless ran now (given_by l)) p 0 + times_raised ran rest p ≡ get_or old p 0
          + times_raised ran lines p
      each p k =
          let was = h.each p k in
          let m : p < length now = omega (arith, k, h.long) in
          let one = raised_by ran now (given_by l) p m in
          let sum : times_raised ran (l ∷ rest) p ≡ none_if (is_same_task ran (Some p))
          (one_if (is_same_task (given_by l) (Some p))) + times_raised ran rest p =
          none_sum (is_same_task ran (Some p)) (one_if (is_same_task (given_by l) (Some p))) (times_given p rest) in
          omega (arith, was, one, sum)

pub rising_few : (old now : List ℕ) (ran : Option ℕ) (lines rest : List Line) → Rising old now ran lines rest
    → ((p : ℕ) → get_or old p 0 ≤ 2 ^ 31) → length lines ≤ 519 → (p : ℕ) → get_or now p 0 < 2 ^ 31 + 2 ^ 10
rising_few old now ran lines rest h few short p = by_test (nat_lt p (length old)) refl where
  by_test : (b : Bool) → nat_lt p (length old) ≡ b → get_or now p 0 < 2 ^ 31 + 2 ^ 10
  by_test true e =
      let l : p < length old = grind (arith, nat_tests, e) in
      let here = h.each p l in
      let most = raised_few_times ran lines p in
      let was = few p in
      omega (arith, here, most, was, short)
  by_test false e =
      let l : length now ≤ p = grind (arith, nat_tests, e, h.long) in
      let none = get_or-eq_default now 0 l in
      omega (arith, none)

drop_all : (i : ℕ) (ls : List Line) → length ls ≤ i → drop i ls ≡ []
drop_all zero [] h = refl
drop_all zero (l ∷ ls) h = absurd (omega (arith, h))
drop_all (suc i) [] h = refl
drop_all (suc i) (l ∷ ls) h = drop_all i ls (omega (arith, h))

pub rising_all : (old now : List ℕ) (ran : Option ℕ) (lines : List Line) (i : ℕ) → length lines ≤ i
    → Rising old now ran lines (drop i lines)
    → AreRaised old now ran lines
rising_all old now ran lines i k h =
    let last : Rising old now ran lines [] = subst (λ (xs : List Line). Rising old now ran lines xs)
    (drop_all i lines k) h in
    record { long = last.long; each = each last } where
      each : Rising old now ran lines [] → (p : ℕ) → p < length old → get_or now p 0 ≡ get_or old p 0
          + times_raised ran lines p
      each last p l =
          let here = last.each p l in
          let none : times_raised ran [] p ≡ zero = none_zero (is_same_task ran (Some p)) in
          omega (arith, here, none)

-- the processor that ran is counted first
pub counted_on : (old now : List ℕ) (ran : Option ℕ) (lines : List Line) → AreRaised (raised old ran) now ran lines
    → AreCounted old now ran lines
counted_on old now ran lines h =
    record { long = h.long ∙ raised_long old ran; each = each } where
      each : (p : ℕ) → p < length old → get_or now p 0 ≡ get_or old p 0 + times_counted ran lines p
      each p l =
          let long = raised_long old ran in
          let first = raised_run old ran p l in
          let rest = h.each p (omega (arith, l, long)) in
          omega (arith, first, rest)

pub counted_run : (old : List ℕ) (ran : Option ℕ) → AreCounted old (raised old ran) ran []
counted_run old ran =
    counted_on old (raised old ran) ran [] (record { long = refl; each = each }) where
      each : (p : ℕ) → p < length (raised old ran) → get_or (raised old ran) p 0 ≡ get_or (raised old ran) p 0
          + times_raised ran [] p
      each p l = let none : times_raised ran [] p ≡ zero = none_zero (is_same_task ran (Some p)) in omega (arith, none)
