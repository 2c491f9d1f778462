-- What a drive tries next, and which waits end by the clock.
use Rattle.std.specs.Prelude.{◌≡◌, ℕ, ◌-◌, ◌&&◌, ◌||◌, ℤ, pos, int_lt, Bool, true, false, List, [], ◌∷◌, Option, Some}
use Rattle.std.specs.Prelude.{None, get_or, is_some, length, replicate, slice_get, slice_set}
use Rattle.std.specs.List.{list_any, range_with_len}
use Rattle.fmp_base.specs.declared.calls.Call.{Call}
use Rattle.fmp_base.specs.declared.catalogue.Parameter.{Parameter}
use Rattle.fmp_base.specs.declared.catalogue.Parameter.TheVariants as parameter
use Rattle.fmp_base.specs.declared.events.Line.{Line}
use Rattle.fmp_base.specs.declared.events.Line.TheVariants as line
use Rattle.fmp_base.specs.declared.events.StateWord.{StateWord}
use Rattle.fmp_base.specs.declared.events.StateWord.TheVariants as word
use Rattle.fmp_base.specs.declared.states.Caller.TheVariants as caller
use Rattle.fmp_base.specs.Runs.{task_state}
use Rattle.fmp_base.specs.Services.{arguments_of, parameters, service_of}
use Rattle.fmp_base.specs.States.{KernelState}
use Rattle.fmp_drive.specs.declared.plan.Plan.{Plan}

-- the last of a list, if there is one
abbrev pub last : {A : Type 0} → List A → Option A
last xs = slice_get xs (length xs - 1)

-- a delay ends by the clock; a time limit does if it is above 0
abbrev pub ends_by : Option Parameter → Option ℤ → Bool
ends_by (Some parameter.Delay) limit = true
ends_by (Some parameter.Limit) (Some limit) = int_lt (pos 0) limit
ends_by _ _ = false

-- a wait that begins with this call ends by the clock: its last argument is a delay or a time limit
abbrev pub ends_by_clock : Call → Bool
ends_by_clock c = ends_by (last (parameters (service_of c))) (last (arguments_of c))

-- for each task, whether the wait that it began last ends by the clock, after this line
abbrev pub waits_after : (ending : List Bool) → Line → List Bool
waits_after ending (line.Call p (caller.Task t) c None) = slice_set ending t (ends_by_clock c)
waits_after ending _ = ending

-- and after these lines
abbrev pub waits_after_all : (ending : List Bool) → List Line → List Bool
waits_after_all ending [] = ending
waits_after_all ending (l ∷ ls) = waits_after_all (waits_after ending l) ls

-- a task in this state waits
abbrev pub is_waiting : StateWord → Bool
is_waiting word.Waiting = true
is_waiting word.WaitingSuspended = true
is_waiting _ = false

-- task t waits, and its wait ends by the clock
abbrev pub is_timed : (ending : List Bool) → KernelState → (t : ℕ) → Bool
is_timed ending s t = is_waiting (task_state s t).word && get_or ending t false

-- the clock can change something: a cyclic handler is started, or one of this many tasks waits for the clock
abbrev pub can_tick : (ending : List Bool) → KernelState → (tasks : ℕ) → Bool
can_tick ending s tasks = list_any is_some s.due_times || list_any (is_timed ending s) (range_with_len 0 tasks)

-- the same of a plan; where interrupts come at random, one may start a cyclic handler
abbrev pub is_due : Plan → KernelState → (tasks : ℕ) → Bool
is_due p s tasks = p.stirred || can_tick p.ending.items s tasks

-- A plan that begins with processor 1, for this many tasks of which none waits; without a seed it is not random, and no
-- interrupt comes.
pub record IsFirstPlan (tasks : ℕ) (seed : Option ℕ) (p : Plan) : Type 0 where
  pub turn : p.turn ≡ 1
  pub random : is_some p.random ≡ is_some seed
  pub stirred : seed ≡ None → p.stirred ≡ false
  pub ending : p.ending.items ≡ replicate tasks false
