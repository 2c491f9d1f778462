-- Conditions, one test after the other.
use Rattle.std.proofs.Common.{◌≡◌, ◌∙◌, List, [], ◌∷◌, Bool, true, false, ◌&&◌, ◌||◌, ap, refl}
use Rattle.std.specs.Prelude.{if◌then◌else◌}
use Rattle.fmp_base.specs.States.{KernelState}
use Rattle.fmp_monitors.specs.declared.condition.ConditionTest.{ConditionTest}
use Rattle.fmp_monitors.specs.Conditions.{passes, passes_all, passes_one}

-- so far a state passes all tests of the alternative that has begun, or not
abbrev pub passes_on : List ConditionTest → KernelState → (so_far : Bool) → Bool
passes_on [] s so_far = so_far
passes_on (t ∷ ts) s so_far =
    if t.alternative && so_far then true else passes_on ts s ((t.alternative || so_far) && passes t s)

on_end : (so_far : Bool) → so_far ≡ ((so_far && true) || false)
on_end true = refl
on_end false = refl

on_step : (a f p all one : Bool) →
    (if a && f then true else ((((a || f) && p) && all) || one))
    ≡ ((f && (a || (p && all))) || ((a && (p && all)) || one))
on_step true true p all one = refl
on_step true false p all one = refl
on_step false true p all one = refl
on_step false false p all one = refl

pub on_is : (ts : List ConditionTest) (s : KernelState) (so_far : Bool)
    → passes_on ts s so_far ≡ ((so_far && passes_all ts s) || passes_one ts s)
on_is [] s so_far = on_end so_far
on_is (t ∷ ts) s so_far =
    ap (λ b. if t.alternative && so_far then true else b)
    (on_is ts s ((t.alternative || so_far) && passes t s))
    ∙ on_step t.alternative so_far (passes t s) (passes_all ts s) (passes_one ts s)

pub on_first : (ts : List ConditionTest) (s : KernelState) → passes_on ts s false ≡ passes_one ts s
on_first ts s = on_is ts s false
