-- Cycles of tasks that wait for one another.
use Rattle.std.specs.Prelude.{ℕ, ◌+◌, List, [], ◌∷◌, Option, Some, None, Bool, false, ◌||◌, if◌then◌else◌, nat_eq}
use Rattle.std.specs.Prelude.{get_or, length, min, suc, zero}

-- the task that task t waits for
abbrev pub next_of : (blockers : List (Option ℕ)) → ℕ → Option ℕ
next_of blockers t = get_or blockers t None

-- from here on this many steps lead to a task
abbrev pub leads_to : (blockers : List (Option ℕ)) → (goal fuel : ℕ) → Option ℕ → Bool
leads_to blockers goal zero at = false
leads_to blockers goal (suc n) None = false
leads_to blockers goal (suc n) (Some t) = nat_eq t goal || leads_to blockers goal n (next_of blockers t)

-- task t waits for itself, by way of at most as many tasks as there are
abbrev pub is_on_cycle : (blockers : List (Option ℕ)) → ℕ → Bool
is_on_cycle blockers t = leads_to blockers t (length blockers) (next_of blockers t)

-- the first task on such a cycle, of this many from t on
abbrev pub cycle_from : (blockers : List (Option ℕ)) → (t fuel : ℕ) → Option ℕ
cycle_from blockers t zero = None
cycle_from blockers t (suc n) =
    if is_on_cycle blockers t then Some t else cycle_from blockers (t + 1) n

-- the first task on such a cycle; there are at most 255 tasks
abbrev pub first_on_cycle : (blockers : List (Option ℕ)) → Option ℕ
first_on_cycle blockers = cycle_from blockers 0 (min (length blockers) 255)

-- a task that is waited for, unless it is the first one
abbrev pub next_but : Option ℕ → (first : ℕ) → Option ℕ
next_but None first = None
next_but (Some u) first = if nat_eq u first then None else Some u

-- the tasks from here on, each of which waits for the next, up to the first one again; at most this many
abbrev pub cycle_tasks : (blockers : List (Option ℕ)) → (first fuel : ℕ) → Option ℕ → List ℕ
cycle_tasks blockers first zero at = []
cycle_tasks blockers first (suc n) None = []
cycle_tasks blockers first (suc n) (Some t) =
    t ∷ cycle_tasks blockers first n (next_but (next_of blockers t) first)
