-- Tables that end before others, and one task more on a cycle.
use Rattle.std.proofs.Common.{◌≡◌, ◌∙◌, ℕ, suc, zero, ◌+◌, ◌-◌, ◌<◌, List, [], ◌∷◌, ◌++◌, Option, Some, None, Bool}
use Rattle.std.proofs.Common.{true, ap, arith, length, refl, sym}
use Rattle.std.proofs.lemmas.List.{append-nil}
use Rattle.std.specs.List.{list_all}
use Rattle.std.specs.Prelude.{zip}
use Rattle.fmp_base.specs.declared.states.Processor.{Processor}
use Rattle.fmp_why.specs.declared.obstacles.SpinWait.{SpinWait}
use Rattle.fmp_why.specs.Cycles.{cycle_tasks, next_but, next_of}
use Rattle.fmp_why.specs.Reports.{Sight, holder_lines, stands}

-- nothing is left to append
pub nothing-left : {A : Type 0} (out rest whole : List A) → rest ≡ [] → out ++ rest ≡ whole → out ≡ whole
nothing-left out rest whole none h = sym (append-nil out) ∙ ap (λ r. out ++ r) (sym none) ∙ h

pub no-holders : (x : Sight) (p : ℕ) (cpus : List Processor) (over : List Bool) → length over < 1
    → holder_lines x p cpus over ≡ []
no-holders x p [] over h = refl
no-holders x p (cpu ∷ cpus) [] h = refl
no-holders x p (cpu ∷ cpus) (o ∷ os) h = absurd (omega (arith, h))

pub none-stand : (cpus : List Processor) (spins : List (Option SpinWait)) → length spins < 1
    → list_all stands (zip cpus spins) ≡ true
none-stand [] spins h = refl
none-stand (cpu ∷ cpus) [] h = refl
none-stand (cpu ∷ cpus) (s ∷ ss) h = absurd (omega (arith, h))

pub cycle-ends : (bs : List (Option ℕ)) (first n : ℕ) → cycle_tasks bs first n None ≡ []
cycle-ends bs first zero = refl
cycle-ends bs first (suc n) = refl

-- one task more, as long as less than m are there
pub cycle-more : (bs : List (Option ℕ)) (first m k t : ℕ) → k < m
    → cycle_tasks bs first (m - k) (Some t) ≡ t ∷ cycle_tasks bs first (m - (k + 1)) (next_but (next_of bs t) first)
cycle-more bs first m k t h = ap (λ (n : ℕ). cycle_tasks bs first n (Some t)) (one-less m k h) where
  one-less : (m k : ℕ) → k < m → m - k ≡ suc (m - (k + 1))
  one-less m k h = omega (arith, h)
