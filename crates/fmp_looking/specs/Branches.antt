-- Which way bodies go at their branches.
use Rattle.std.specs.Prelude.{ℕ, zero, suc, ◌-◌, pos, not, List, [], ◌∷◌, ◌++◌, Option, Some, None, count_by}
use Rattle.std.specs.Prelude.{get_or, if◌then◌else◌, option_map, slice_get, take, unwrap_or}
use Rattle.std.specs.Prelude.{Bool, true, false, ℤ}
use Rattle.fmp_base.specs.declared.events.Effect.{Effect}
use Rattle.fmp_base.specs.declared.events.Effect.TheVariants as effect
use Rattle.fmp_base.specs.declared.events.Event.{Event}
use Rattle.fmp_base.specs.declared.events.Event.TheVariants.{Run, Tick, Int}
use Rattle.fmp_base.specs.Meanings.{Meaning}
use Rattle.fmp_base.specs.Operators.{is_zero}
use Rattle.fmp_base.specs.Steps.{effect_of}
use Rattle.fmp_base.specs.Stretches.{Ending}
use Rattle.fmp_base.specs.Stretches as ends
use Rattle.fmp_kernel.specs.declared.actors.Actor.{Actor}
use Rattle.fmp_kernel.specs.Comings.{reaction_of}
use Rattle.fmp_kernel.specs.KernelViews.{KernelView, actor_in, view_after}
use Rattle.fmp_instructions.specs.declared.instructions.Instruction.{Instruction}
use Rattle.fmp_instructions.specs.declared.instructions.Instruction.TheVariants as instruction
use Rattle.fmp_instructions.specs.declared.instructions.MachineContext.{MachineContext}
use Rattle.fmp_instructions.specs.Instructions.{BodyTables}
use Rattle.fmp_looking.specs.declared.branches.BranchStep.{BranchStep}

-- the instructions of a body; none if there is no such body
abbrev pub instructions_of : List BodyTables → (body : ℕ) → List Instruction
instructions_of code body = unwrap_or (option_map (λ b. b.instructions) (slice_get code body)) []

-- an instruction that goes on elsewhere if a value is 0
abbrev pub is_branch : Instruction → Bool
is_branch (instruction.JumpIfZero a) = true
is_branch _ = false

-- how many branches a body has before a position
abbrev pub branches_before : List Instruction → (pc : ℕ) → ℕ
branches_before code pc = count_by is_branch (take pc code)

-- the topmost operand
abbrev pub top_of : MachineContext → ℤ
top_of c = get_or c.operands (c.count - 1) (pos 0)

-- a branch stands at a position
abbrev pub is_branch_at : List Instruction → (pc : ℕ) → Bool
is_branch_at code pc = unwrap_or (option_map is_branch (slice_get code pc)) false

-- a body comes to an instruction: if that is a branch, which way it goes is what its topmost operand says
abbrev pub step_of : List Instruction → (body : ℕ) → MachineContext → BranchStep
step_of code body c =
    record { body = body; number = branches_before code c.pc; is_true = not (is_zero (top_of c)) }

abbrev pub step_here : List Instruction → (body : ℕ) → MachineContext → List BranchStep
step_here code body c = if is_branch_at code c.pc then step_of code body c ∷ [] else []

-- the context that a bound left, if it left one
abbrev pub left_by : Ending MachineContext → Option MachineContext
left_by (ends.Over c) = c
left_by _ = None

-- the context, if it was left
abbrev pub left_if : Bool → MachineContext → Option MachineContext
left_if true c = Some c
left_if false c = None

-- goes on from there
abbrev pub from_there : Option MachineContext → (MachineContext → List BranchStep) → List BranchStep
from_there (Some c) go = go c
from_there None go = []

-- the branches of a stretch of at most n instructions, one instruction after the other
abbrev pub stretch_steps : Meaning MachineContext → List Instruction → (body n : ℕ) → MachineContext → List BranchStep
stretch_steps M code body zero c = []
stretch_steps M code body (suc n) c =
    step_here code body c ++ from_there (left_by (M.stretch body 1 c)) (λ d. stretch_steps M code body n d)

-- those of an actor up to its next call
abbrev pub actor_steps : Meaning MachineContext → List BodyTables → (bound : ℕ) → Option (Actor MachineContext)
    → List BranchStep
actor_steps M code bound None = []
actor_steps M code bound (Some a) = stretch_steps M (instructions_of code a.entry) a.entry bound a.context

-- an event that does nothing goes through none
abbrev pub if_taken : List BranchStep → Effect → List BranchStep
if_taken steps effect.Nothing = []
if_taken steps effect.Done = steps
if_taken steps effect.Kept = steps

-- the actor that an event runs, if it runs one
abbrev pub event_actor : {B : Type 0} → KernelView B MachineContext → Event → Option (Actor MachineContext)
event_actor k (Run p) = actor_in k p
event_actor k Tick = None
event_actor k (Int i) = None

module _ {B : Type 0} (meaning : B → Meaning MachineContext) (code : List BodyTables) where
  abbrev pub event_steps : KernelView B MachineContext → Event → List BranchStep
  event_steps k e = actor_steps (meaning k.body) code k.bound (event_actor k e)

  -- the branches to which a run comes, with the ways that it goes there
  abbrev pub branch_steps : KernelView B MachineContext → List Event → List BranchStep
  branch_steps k [] = []
  branch_steps k (e ∷ es) =
      if_taken (event_steps k e) (effect_of (reaction_of meaning k e))
      ++ branch_steps (view_after k (reaction_of meaning k e)) es
