-- How often the branches of bodies went each way, as that is capped.
use Rattle.std.specs.Prelude.{ℕ, ◌≡◌, ◌+◌, ◌-◌, ◌*◌, ◌^◌, ◌==◌, ◌&&◌, Bool, true, false, if◌then◌else◌, List, []}
use Rattle.std.specs.Prelude.{Option, Some, None, count_by, get_or, min, not, slice_get}
use Rattle.fmp_looking.specs.declared.branches.BranchStep.{BranchStep}
use Rattle.fmp_looking.specs.declared.ways.BodyWays.{BodyWays}
use Rattle.fmp_looking.specs.declared.ways.BranchWays.{BranchWays}
use Rattle.fmp_looking.specs.declared.ways.WayCounts.{WayCounts}

-- a count of 64 bits: of more it is the most that they hold
abbrev pub capped : ℕ → ℕ
capped n = min n (2 ^ 64 - 1)

abbrev pub never : WayCounts
never = record { is_true = 0; is_false = 0 }

-- of a branch that went one way only
abbrev pub one_way : (way : Bool) → (times : ℕ) → WayCounts
one_way true times = record { is_true = times; is_false = 0 }
one_way false times = record { is_true = 0; is_false = times }

abbrev pub both_ways : WayCounts → WayCounts → WayCounts
both_ways a b = record { is_true = capped (a.is_true + b.is_true); is_false = capped (a.is_false + b.is_false) }

-- how often a branch went a way
abbrev pub times_of : (way : Bool) → WayCounts → ℕ
times_of true c = c.is_true
times_of false c = c.is_false

abbrev pub branches_in : Option BodyWays → List WayCounts
branches_in None = []
branches_in (Some b) = b.branches.items

-- what is known of the branches of a body
abbrev pub branches_of : List BodyWays → (body : ℕ) → List WayCounts
branches_of bodies b = branches_in (slice_get bodies b)

-- how often branches went each way: by the body, by the number of the branch in it, both from 0, and by the way
abbrev pub TimesGone : Type 0
TimesGone = (body number : ℕ) → (way : Bool) → ℕ

abbrev pub times_in : BranchWays → TimesGone
times_in w b n way = capped (times_of way (get_or (branches_of w.bodies.items b) n never))

abbrev pub is_way : (way : Bool) → BranchStep → Bool
is_way true s = s.is_true
is_way false s = not s.is_true

-- the branch of a number of a body went this way
abbrev pub goes : (body number : ℕ) → (way : Bool) → BranchStep → Bool
goes b n way s = (b == s.body) && ((n == s.number) && is_way way s)

abbrev pub none_gone : TimesGone
none_gone b n way = 0

-- after these steps
abbrev pub with_steps : TimesGone → List BranchStep → TimesGone
with_steps gone steps b n way = capped (gone b n way + count_by (goes b n way) steps)

abbrev pub both_gone : TimesGone → TimesGone → TimesGone
both_gone gone more b n way = capped (gone b n way + more b n way)

-- after these steps, each of which is counted this many times
abbrev pub IsWithSteps : (times : ℕ) → BranchWays → List BranchStep → BranchWays → Type 0
IsWithSteps times before steps after =
    (b n : ℕ) (way : Bool)
    → times_in after b n way ≡ capped (times_in before b n way + times * count_by (goes b n way) steps)
