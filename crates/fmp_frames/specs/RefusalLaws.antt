-- What calls that are told as refused have to do with the lines of a run.
use Rattle.std.specs.Prelude.{◌≡◌, ℕ, List, [], ◌∷◌, Some, Bool, false}
use Rattle.std.specs.List.{AllByRecursion, list_any}
use Rattle.fmp_base.specs.declared.events.Event.{Event}
use Rattle.fmp_base.specs.declared.events.Line.{Line}
use Rattle.fmp_base.specs.declared.events.Line.TheVariants as line
use Rattle.fmp_base.specs.Meanings.{Meaning}
use Rattle.fmp_base.specs.Steps.{Reaction, Nothing, Did, Kept}
use Rattle.fmp_instructions.specs.declared.instructions.MachineContext.{MachineContext}
use Rattle.fmp_instructions.specs.Instructions.{BodyTables}
use Rattle.fmp_kernel.specs.Comings.{reaction_of}
use Rattle.fmp_kernel.specs.KernelViews.{KernelView, view_after}
use Rattle.fmp_frames.specs.declared.refusals.Refusal.TheVariants as refusal
use Rattle.fmp_frames.specs.declared.sites.CallSite.{CallSite}
use Rattle.fmp_frames.specs.Answers.{answers_in}
use Rattle.fmp_frames.specs.Made.{event_site}
use Rattle.fmp_frames.specs.Refusals.{is_ok, refused_calls}

-- a line tells a call that is answered E_OK
abbrev pub is_done_call : Line → Bool
is_done_call (line.Call p who c (Some reply)) = is_ok reply.code
is_done_call l = false

abbrev pub lines_told : Reaction MachineContext → List Line
lines_told Nothing = []
lines_told (Did d) = d.lines
lines_told (Kept p w) = []

module _ {B : Type 0} (meaning : B → Meaning MachineContext) where
  -- no event of a run that makes this call tells that it is answered E_OK
  abbrev pub IsNeverDone : KernelView B MachineContext → List Event → CallSite → Type 0
  IsNeverDone k [] s = Unit {0}
  IsNeverDone k (e ∷ es) s =
      (event_site meaning k e ≡ Some s → list_any is_done_call (lines_told (reaction_of meaning k e)) ≡ false)
      × IsNeverDone (view_after k (reaction_of meaning k e)) es s

-- a call of a run that is told as always refused is never answered E_OK in this run
abbrev pub RefusedCallsAreNeverDone : {B : Type 0} → (B → Meaning MachineContext) → Type 0
RefusedCallsAreNeverDone {B} meaning =
    (k : KernelView B MachineContext) (es : List Event) (tasks : ℕ) (code : List BodyTables)
    → AllByRecursion (λ r. r.refusal ≡ refusal.Always → IsNeverDone meaning k es r.site)
    (refused_calls code (answers_in meaning k es tasks))
