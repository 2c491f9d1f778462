-- A hosted system beside the text that its bodies must follow.
use Rattle.std.specs.Prelude.{◌≡◌, ◌≤◌, ◌+◌, ◌^◌, ℕ, List, [], ◌∷◌, Option, Some, None, Result, Ok, Err}
use Rattle.fmp_base.specs.declared.events.Effect.{Effect}
use Rattle.fmp_base.specs.Setups.{setup}
use Rattle.fmp_base.specs.Steps.{effect_of}
use Rattle.fmp_base.specs.Systems.{tables_of}
use Rattle.fmp_base.specs.Ties.{WorldTied}
use Rattle.fmp_instructions.specs.declared.instructions.MachineContext.{MachineContext}
use Rattle.fmp_instructions.specs.Instructions.{BodyTables}
use Rattle.fmp_instructions.specs.Machine.{code_meaning}
use Rattle.fmp_image_bytes.specs.Images.{ImageTables}
use Rattle.fmp_kernel.specs.KernelViews.{KernelView, view_of_setup}
use Rattle.fmp_outside.specs.declared.given.Given.{Given}
use Rattle.fmp_foreign.specs.declared.hosted.HostedSystem.{HostedSystem}
use Rattle.fmp_foreign.specs.declared.requests.Refusal.{Refusal}
use Rattle.fmp_foreign.specs.Following.{DoesOtherwise, HasFollowed}
use Rattle.fmp_foreign.specs.Foreign.{foreign_meaning}
use Rattle.fmp_foreign.specs.Hosting.{ForeignKernel, after, reaction}
use Rattle.fmp_checked.specs.declared.following.Objection.{Objection}
use Rattle.fmp_checked.specs.declared.following.Objection.TheVariants as objection

-- a kernel that runs the text of an image's bodies
abbrev pub TextKernel : Type 0
TextKernel = KernelView (List BodyTables) MachineContext

-- contexts of which nothing is asked
abbrev pub Anyhow : {C D : Type 0} → ℕ → C → D → Type 0
Anyhow body c d = Unit {0}

-- a kernel whose bodies run elsewhere stands where the text does: the lines of the last event that was done are the
-- same, as many events were done, and there is one state, in which the same bodies go on or await a reply
pub record InStep {B C : Type 0} (k : ForeignKernel) (t : KernelView B C) : Type 0 where
  pub system : k.system ≡ t.system
  pub lines : k.lines ≡ t.lines
  pub done : k.done ≡ t.done
  pub worlds : WorldTied t.system Anyhow Anyhow k.world t.world

-- a hosted system and the text of its bodies
pub record CheckedView : Type 0 where
  pub hosted : HostedSystem
  pub text : TextKernel

-- the hosted system of an image, after setup
pub record IsHostedBy (i : ImageTables) (h : HostedSystem) : Type 0 where
  pub system : tables_of h.system ≡ i.system
  pub kernel :
      h.kernel
      ≡ view_of_setup h.kernel.body 1 (tables_of h.system)
      (setup (tables_of h.system) (foreign_meaning h.kernel.body))

-- the text of an image, after setup
abbrev pub IsTextOf : ImageTables → (bound : ℕ) → TextKernel → Type 0
IsTextOf i bound t = t ≡ view_of_setup i.code bound i.system (setup i.system (code_meaning i.code))

-- both
pub record IsBegun (i : ImageTables) (bound : ℕ) (h : HostedSystem) (t : TextKernel) : Type 0 where
  pub hosted : IsHostedBy i h
  pub text : IsTextOf i bound t

-- the hosted system after what came: where there is an objection, it stays as it is
abbrev pub hosted_after : HostedSystem → Given → Result Effect Objection → HostedSystem
hosted_after h g (Ok effect) = after h (Ok g)
hosted_after h g (Err why) = h

-- why the text, at t before and at u after it, does not do this next: it has gone on within a stretch at most
abbrev pub IsObjection : (t : TextKernel) → Given → (u : TextKernel) → Objection → Type 0
IsObjection t g u (objection.Refused why) = ⊥
IsObjection t g u objection.Differs = HasFollowed code_meaning t [] u × DoesOtherwise code_meaning u g
IsObjection t g u objection.Long = HasFollowed code_meaning t [] u × (u.taken ≡ t.taken + 1)
IsObjection t g u objection.Full = HasFollowed code_meaning t [] u × (2 ^ 31 ≤ u.taken)

-- what the text made of something that was not refused: it has followed, and the effect is that on the kernel k; or
-- there is an objection
abbrev pub IsJudged : ForeignKernel → (t : TextKernel) → Given → (u : TextKernel) → Result Effect Objection → Type 0
IsJudged k t g u (Ok effect) = (effect ≡ effect_of (reaction k g)) × HasFollowed code_meaning t (g ∷ []) u
IsJudged k t g u (Err why) = IsObjection t g u why

-- what is answered, where it may be refused
abbrev pub IsChecked :
    Option Refusal → ForeignKernel → (t : TextKernel) → Given → (u : TextKernel) → Result Effect Objection → Type 0
IsChecked None k t g u answer = IsJudged k t g u answer
IsChecked (Some why) k t g u answer = (answer ≡ Err (objection.Refused why)) × (u ≡ t)
