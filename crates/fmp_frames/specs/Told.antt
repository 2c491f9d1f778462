-- What the lines of a run tell of calls.
use Rattle.std.specs.Prelude.{ℕ, ◌++◌, List, [], ◌∷◌, Option, None, Some, get_or, slice_set}
use Rattle.fmp_base.specs.declared.calls.Reply.{Reply}
use Rattle.fmp_base.specs.declared.codes.Er.{Er}
use Rattle.fmp_base.specs.declared.events.Line.{Line}
use Rattle.fmp_base.specs.declared.events.Line.TheVariants as line
use Rattle.fmp_base.specs.declared.services.Service.{Service}
use Rattle.fmp_base.specs.declared.states.Caller.{Caller}
use Rattle.fmp_base.specs.declared.states.Caller.TheVariants as caller
use Rattle.fmp_base.specs.Services.{service_of}
use Rattle.fmp_frames.specs.declared.told.CallTold.{CallTold}
use Rattle.fmp_frames.specs.declared.told.ToldCalls.{ToldCalls}
use Rattle.fmp_frames.specs.declared.told.ToldOutcome.{ToldOutcome}
use Rattle.fmp_frames.specs.declared.told.ToldOutcome.TheVariants as outcome

-- what became of a call with this reply, or with none
abbrev pub outcome_of : Option Reply → ToldOutcome
outcome_of (Some reply) = outcome.Answered reply.code
outcome_of None = outcome.Waits

-- the end of the wait of a task that began to wait at this call
abbrev pub released : (task : ℕ) → Option Service → Er → Option CallTold
released t None code = None
released t (Some service) code =
    Some (record { caller = caller.Task t; service = service; outcome = outcome.Released code })

-- what a line tells of a call, where tasks began to wait at these calls
abbrev pub told_by : (waiting : List (Option Service)) → Line → Option CallTold
told_by waiting (line.Call p who c reply) =
    Some (record { caller = who; service = service_of c; outcome = outcome_of reply })
told_by waiting (line.Gets p t reply) = released t (get_or waiting t None) reply.code
told_by waiting l = None

-- a task begins to wait at this call
abbrev pub wait_at : (waiting : List (Option Service)) → (task : ℕ) → Service → List (Option Service)
wait_at waiting t service = slice_set waiting t (Some service)

-- the calls at which tasks began to wait last, after a line
abbrev pub waiting_after : (waiting : List (Option Service)) → Line → List (Option Service)
waiting_after waiting (line.Call p (caller.Task t) c None) = wait_at waiting t (service_of c)
waiting_after waiting l = waiting

-- what was told of calls, and by task the call at which it began to wait last
pub record Told : Type 0 where
  pub told : List CallTold
  pub waiting : List (Option Service)

abbrev pub told_of : ToldCalls → Told
told_of c = record { told = c.told.items; waiting = c.waiting.items }

-- one more, if there is one
abbrev pub with : List CallTold → Option CallTold → List CallTold
with told None = told
with told (Some t) = told ++ (t ∷ [])

-- one line more is told
abbrev pub told_after : Told → Line → Told
told_after t l = record { told = with t.told (told_by t.waiting l); waiting = waiting_after t.waiting l }

-- more lines are told
abbrev pub told_after_all : Told → List Line → Told
told_after_all t [] = t
told_after_all t (l ∷ ls) = told_after_all (told_after t l) ls
