-- What the calls of a run were answered.
use Rattle.std.specs.Prelude.{ℕ, List, [], ◌∷◌, ◌++◌, Option, Some, None, get_or, length, replicate, slice_set}
use Rattle.fmp_base.specs.declared.calls.Reply.{Reply}
use Rattle.fmp_base.specs.declared.codes.Er.{Er}
use Rattle.fmp_base.specs.declared.events.Effect.{Effect}
use Rattle.fmp_base.specs.declared.events.Effect.TheVariants as effect
use Rattle.fmp_base.specs.declared.events.Event.{Event}
use Rattle.fmp_base.specs.declared.events.Line.{Line}
use Rattle.fmp_base.specs.declared.events.Line.TheVariants as line
use Rattle.fmp_base.specs.declared.states.Caller.{Caller}
use Rattle.fmp_base.specs.declared.states.Caller.TheVariants as caller
use Rattle.fmp_base.specs.Meanings.{Meaning}
use Rattle.fmp_base.specs.Steps.{effect_of}
use Rattle.fmp_kernel.specs.Comings.{reaction_of}
use Rattle.fmp_kernel.specs.KernelViews.{KernelView, view_after}
use Rattle.fmp_instructions.specs.declared.instructions.MachineContext.{MachineContext}
use Rattle.fmp_instructions.specs.Instructions.{BodyTables}
use Rattle.fmp_frames.specs.declared.call_positions.CallPosition.{CallPosition}
use Rattle.fmp_frames.specs.Made.{event_position}
use Rattle.fmp_looking.specs.declared.observing.CallSeen.{CallSeen}
use Rattle.fmp_looking.specs.declared.observing.CallsSeen.{CallsSeen}
use Rattle.fmp_looking.specs.declared.observing.Outcome.TheVariants as outcome

-- the calls so far: that they were made, and what each was answered; and by task the call at which it began to wait
-- last
pub record Heard : Type 0 where
  pub calls : List CallSeen
  pub waiting : List (Option CallPosition)

abbrev pub heard_of : CallsSeen → Heard
heard_of s = record { calls = s.calls.items; waiting = s.waiting.items }

-- after these calls, where none of this number of tasks waits
abbrev pub unheard : List CallSeen → (tasks : ℕ) → Heard
unheard calls tasks = record { calls = calls; waiting = replicate tasks None }

-- a call was made, if one was
abbrev pub made : Heard → Option CallPosition → Heard
made h None = h
made h (Some p) = record h { calls = h.calls ++ record { position = p; outcome = outcome.Made } ∷ [] }

-- a call was answered a code, if it is known which call
abbrev pub answered : Heard → Option CallPosition → Er → Heard
answered h None c = h
answered h (Some p) c = record h { calls = h.calls ++ record { position = p; outcome = outcome.Answered c } ∷ [] }

-- a task began to wait at a call
abbrev pub waits : Heard → (task : ℕ) → Option CallPosition → Heard
waits h t p = record h { waiting = slice_set h.waiting t p }

-- a call of a caller got this reply, or its caller waits
abbrev pub replied : Heard → Option CallPosition → Caller → Option Reply → Heard
replied h p who (Some reply) = answered h p reply.code
replied h p (caller.Task t) None = waits h t p
replied h p (caller.Handler x) None = h

-- one line more, of an event that makes this call, if it makes one
abbrev pub heard_line : Heard → Option CallPosition → Line → Heard
heard_line h p (line.Call q who c reply) = replied h p who reply
heard_line h p (line.Gets q t reply) = answered h (get_or h.waiting t None) reply.code
heard_line h p l = h

-- more lines of the event
abbrev pub heard_lines : Heard → Option CallPosition → List Line → Heard
heard_lines h p [] = h
heard_lines h p (l ∷ ls) = heard_lines (heard_line h p l) p ls

-- one event more, which did this: if it is done, it made this call, if it makes one, and these are its lines
abbrev pub heard_event : Heard → Option CallPosition → Effect → List Line → Heard
heard_event h p effect.Nothing ls = h
heard_event h p effect.Done ls = heard_lines (made h p) p ls
heard_event h p effect.Kept ls = h

module _ {B : Type 0} (meaning : B → Meaning MachineContext) (code : List BodyTables)
    (bodies : List (List CallPosition)) where
  -- what is known of calls, beside what was known before a run
  abbrev pub heard_in : KernelView B MachineContext → List Event → Heard → Heard
  heard_in k [] h = h
  heard_in k (e ∷ es) h =
      let after = view_after k (reaction_of meaning k e) in
      heard_in after es
      (heard_event h (event_position meaning code bodies k e) (effect_of (reaction_of meaning k e)) after.lines)

  -- the calls that were known, and those of a run after them
  abbrev pub calls_seen : KernelView B MachineContext → List Event → List CallSeen → List CallSeen
  calls_seen k es calls = (heard_in k es (unheard calls (length k.system.tasks))).calls
