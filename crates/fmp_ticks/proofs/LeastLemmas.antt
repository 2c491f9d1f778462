-- The least time, where a time is written.
use Rattle.std.proofs.Common.{◌≡◌, ◌≢◌, ◌<◌, ◌≤◌, ◌+◌, ◌^◌, ◌-◌, ℕ, zero, suc, min, List, [], ◌∷◌, length, Option, Some}
use Rattle.std.proofs.Common.{None, true, false, nat_eq, refl, ap, ◌∙◌, sym, arith}
use Rattle.std.specs.Prelude.{slice_get, slice_set, eqb}
use Rattle.std.specs.Option.{option_eq}
use Rattle.std.proofs.lemmas.Bool.{eq-eqb}
use Rattle.std.proofs.lemmas.Bool.Decides.{nat_tests}
use Rattle.fmp_ticks.specs.Times.{first_due_from, least_time, lowered}

later : (time now : ℕ) → now < time → nat_eq time now ≡ false
later time now l = grind (arith, nat_tests)

-- before the least time none is due
pub none-due : (now i : ℕ) (times : List (Option ℕ)) → now < least_time times → first_due_from now i times ≡ None
none-due now i [] early = refl
none-due now i (None ∷ times) early = none-due now (i + 1) times early
none-due now i (Some time ∷ times) early =
    let l : now < time = omega (arith, early) in
    let m : now < least_time times = omega (arith, early) in
    rw (later time now l) (none-due now (i + 1) times m)

-- a time lowers the least of the others
lowered-over : (h r : ℕ) (due : Option ℕ) → min h (lowered r due) ≡ lowered (min h r) due
lowered-over h r None = refl
lowered-over h r (Some t) = omega arith

least-written : (times : List (Option ℕ)) (c : ℕ) (due : Option ℕ) → c < length times
    → least_time (slice_set times c due) ≡ lowered (least_time (slice_set times c None)) due
least-written [] c due l = absurd (omega arith)
least-written (time ∷ times) zero due l = refl
least-written (None ∷ times) (suc c) due l = least-written times c due (omega arith)
least-written (Some h ∷ times) (suc c) due l =
    ap (min h) (least-written times c due (omega arith)) ∙ lowered-over h (least_time (slice_set times c None)) due

least-read : (times : List (Option ℕ)) (c : ℕ) (before : Option ℕ) → slice_get times c ≡ Some before
    → least_time times ≡ lowered (least_time (slice_set times c None)) before
least-read [] c before e = cc
least-read (time ∷ times) zero before e = let s : time ≡ before = cc in ap (lowered (least_time times)) s
least-read (None ∷ times) (suc c) before e = least-read times c before e
least-read (Some h ∷ times) (suc c) before e =
    ap (min h) (least-read times c before e) ∙ lowered-over h (least_time (slice_set times c None)) before

-- a handler that was not the first to be due leaves the least time of the others
pub least-set : (times : List (Option ℕ)) (c : ℕ) (before due : Option ℕ) → slice_get times c ≡ Some before
    → before ≢ Some (least_time times)
    → c < length times → least_time (slice_set times c due) ≡ lowered (least_time times) due
least-set times c before due read other l = least-written times c due l
    ∙ ap (λ (n : ℕ). lowered n due) (rest before (least-read times c before read) other) where
      rest : (o : Option ℕ) → least_time times ≡ lowered (least_time (slice_set times c None)) o
          → o ≢ Some (least_time times)
          → least_time (slice_set times c None) ≡ least_time times
      rest None e h = sym e
      rest (Some b) e h =
          let apart : b ≢ least_time times = λ s. h (ap (λ (n : ℕ). Some n) s) in
          omega (arith, e)

-- a time of 32 bits is at most the greatest number
pub least-fits : (times : List (Option ℕ)) → least_time times ≤ 2 ^ 32 - 1
least-fits [] = omega arith
least-fits (None ∷ times) = least-fits times
least-fits (Some time ∷ times) = let l : least_time times ≤ 2 ^ 32 - 1 = least-fits times in omega (arith, l)

-- what a test of two options denies
pub other-time : (o : Option ℕ) (n least : ℕ) → n ≡ least → false ≡ option_eq eqb o (Some n) → o ≢ Some least
other-time o n least e differ is = let d : false ≡ true = rw (is, e) at differ ∙ eq-eqb least least refl in cc
