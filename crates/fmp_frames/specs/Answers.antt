-- What the calls of a run were answered.
use Rattle.std.specs.Prelude.{ℕ, List, [], ◌∷◌, ◌++◌, Option, Some, None, Bool, ◌&&◌, if◌then◌else◌}
use Rattle.std.specs.Prelude.{get_or, replicate, slice_set}
use Rattle.std.specs.List.{flat_map, list_any}
use Rattle.std.specs.Ordering.{int_eq}
use Rattle.fmp_base.specs.declared.calls.Reply.{Reply}
use Rattle.fmp_base.specs.declared.codes.Er.{Er}
use Rattle.fmp_base.specs.declared.codes.Er.TheVariants as er
use Rattle.fmp_base.specs.declared.events.Event.{Event}
use Rattle.fmp_base.specs.declared.events.Line.{Line}
use Rattle.fmp_base.specs.declared.events.Line.TheVariants as line
use Rattle.fmp_base.specs.declared.states.Caller.{Caller}
use Rattle.fmp_base.specs.declared.states.Caller.TheVariants as caller
use Rattle.fmp_base.specs.Codes.{code_of}
use Rattle.fmp_base.specs.Meanings.{Meaning}
use Rattle.fmp_base.specs.Steps.{Reaction, Nothing, Did, Kept}
use Rattle.fmp_kernel.specs.Comings.{reaction_of}
use Rattle.fmp_instructions.specs.declared.instructions.MachineContext.{MachineContext}
use Rattle.fmp_kernel.specs.KernelViews.{KernelView, view_after}
use Rattle.fmp_frames.specs.declared.answers.RunAnswers.{RunAnswers}
use Rattle.fmp_frames.specs.declared.answers.SiteAnswer.{SiteAnswer}
use Rattle.fmp_frames.specs.declared.sites.CallSite.{CallSite}
use Rattle.fmp_frames.specs.Made.{event_site}
use Rattle.fmp_frames.specs.Sites.{is_same_site}

abbrev pub is_same_code : Er → Er → Bool
is_same_code a b = int_eq (code_of a) (code_of b)

-- this says that a call was answered a code
abbrev pub is_answer : CallSite → Er → SiteAnswer → Bool
is_answer s c a = is_same_site a.site s && is_same_code a.code c

-- a call was answered a code
abbrev pub was_answered : List SiteAnswer → CallSite → Er → Bool
was_answered answers s c = list_any (is_answer s c) answers

-- each call with each code that it got, once: one answer more
abbrev pub with_answer : List SiteAnswer → CallSite → Er → List SiteAnswer
with_answer answers s c =
    if was_answered answers s c then answers else answers ++ record { site = s; code = c } ∷ []

-- the codes that calls and the ends of waits answer
abbrev pub answer_codes : List Er
answer_codes =
    er.Ok ∷ er.Par ∷ er.Id ∷ er.Ctx ∷ er.Iluse ∷ er.Obj ∷ er.Qovr ∷ er.Rlwai ∷ er.Tmout ∷ []

-- a code, if a call was answered it
abbrev pub code_at : List SiteAnswer → CallSite → Er → List Er
code_at answers s c = if was_answered answers s c then c ∷ [] else []

-- the codes that a call was answered
abbrev pub codes_at : List SiteAnswer → CallSite → List Er
codes_at answers s = flat_map (λ c. code_at answers s c) answer_codes

-- the answers so far, and by task the call at which it began to wait last
pub record Heard : Type 0 where
  pub answers : List SiteAnswer
  pub waiting : List (Option CallSite)

abbrev pub heard_of : RunAnswers → Heard
heard_of a = record { answers = a.answers.items; waiting = a.waiting.items }

-- none yet, of this number of tasks
abbrev pub unheard : (tasks : ℕ) → Heard
unheard tasks = record { answers = []; waiting = replicate tasks None }

-- a call was answered a code, if it is known which call
abbrev pub answered : Heard → Option CallSite → Er → Heard
answered h None c = h
answered h (Some s) c = record h { answers = with_answer h.answers s c }

-- a task began to wait at a call
abbrev pub waits : Heard → (task : ℕ) → Option CallSite → Heard
waits h t s = record h { waiting = slice_set h.waiting t s }

-- a call of a caller got this reply, or its caller waits
abbrev pub called : Heard → Option CallSite → Caller → Option Reply → Heard
called h s who (Some reply) = answered h s reply.code
called h s (caller.Task t) None = waits h t s
called h s (caller.Handler x) None = h

-- one line more, of an event that makes this call, if it makes one
abbrev pub heard_line : Heard → Option CallSite → Line → Heard
heard_line h s (line.Call p who c reply) = called h s who reply
heard_line h s (line.Gets p t reply) = answered h (get_or h.waiting t None) reply.code
heard_line h s l = h

-- more lines of the event
abbrev pub heard_lines : Heard → Option CallSite → List Line → Heard
heard_lines h s [] = h
heard_lines h s (l ∷ ls) = heard_lines (heard_line h s l) s ls

-- what an event did
abbrev pub heard_reaction : Heard → Option CallSite → Reaction MachineContext → Heard
heard_reaction h s Nothing = h
heard_reaction h s (Did d) = heard_lines h s d.lines
heard_reaction h s (Kept p w) = h

module _ {B : Type 0} (meaning : B → Meaning MachineContext) where
  -- what the calls of a run were answered, beside what was known before it
  abbrev pub heard_in : KernelView B MachineContext → List Event → Heard → Heard
  heard_in k [] h = h
  heard_in k (e ∷ es) h =
      heard_in (view_after k (reaction_of meaning k e)) es
      (heard_reaction h (event_site meaning k e) (reaction_of meaning k e))

  -- what the calls of a run were answered
  abbrev pub answers_in : KernelView B MachineContext → List Event → (tasks : ℕ) → List SiteAnswer
  answers_in k es tasks = (heard_in k es (unheard tasks)).answers
