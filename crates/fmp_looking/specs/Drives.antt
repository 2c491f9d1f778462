-- What it is to drive an image.
use Rattle.std.specs.Prelude.{ℕ, ◌≡◌, ◌^◌, List, [], Option, length, min}
use Rattle.fmp_base.specs.Meanings.{Meaning}
use Rattle.fmp_instructions.specs.declared.instructions.MachineContext.{MachineContext}
use Rattle.fmp_instructions.specs.Instructions.{BodyTables}
use Rattle.fmp_instructions.specs.Machine.{code_meaning}
use Rattle.fmp_drive.specs.declared.driving.Driven.{Driven}
use Rattle.fmp_drive.specs.declared.plan.Plan.{Plan}
use Rattle.fmp_drive.specs.Driving.{IsDriven}
use Rattle.fmp_drive.specs.NextRuns.{AreNext}
use Rattle.fmp_drive.specs.Plans.{IsFirstPlan}
use Rattle.fmp_replay.specs.Replays.{kernel_after}
use Rattle.fmp_image_bytes.specs.Images.{ImageTables}
use Rattle.fmp_kernel.specs.KernelViews.{KernelView}
use Rattle.fmp_trace.specs.Steps.{steps_text}
use Rattle.fmp_looking.specs.declared.commands.DriveEnding.{DriveEnding}
use Rattle.fmp_looking.specs.declared.commands.DrivenText.{DrivenText}
use Rattle.fmp_looking.specs.declared.commands.Driving.{Driving}
use Rattle.fmp_looking.specs.declared.driving.Drive.{Drive}

-- a kernel was driven by a new plan: it has taken these events, at most `most`, and then stopped. Without a seed the
-- processors went in turn, and the clock where none could do anything.
pub record IsDrivenAnew {B C : Type 0} (meaning : B → Meaning C) (before after : KernelView B C)
    (processors tasks most : ℕ) (seed : Option ℕ) (d : Driven) : Type 0 where
  pub plan : Plan
  pub first : IsFirstPlan tasks seed plan
  pub driven : IsDriven meaning before after plan processors tasks most d.steps.items d.stop

-- the kernel of an image was driven so from setup on; and the next runs are those of the kernel that it is then
pub record DrivesImage (i : ImageTables) (n most : ℕ) (seed : Option ℕ) (d : Drive) : Type 0 where
  pub after : KernelView (List BodyTables) MachineContext
  pub driven :
      IsDrivenAnew code_meaning (kernel_after i n []) after i.system.processors (length i.system.tasks) most seed
      d.driven
  pub next : AreNext code_meaning after d.next

-- how a drive of an image ended
abbrev pub ending_of : ImageTables → Drive → DriveEnding
ending_of i d = record { stop = d.driven.stop; next = d.next; processors = i.system.processors }

-- the text of the steps of a drive of an image, until as many events are done as there are to be at most, and how it
-- ended
pub record IsDrivenText (i : ImageTables) (driving : Driving) (t : DrivenText) : Type 0 where
  pub drive : Drive
  pub driven : DrivesImage i driving.bound (min driving.events (2 ^ 20)) driving.seed drive
  pub steps : t.steps.items ≡ steps_text drive.driven.steps.items
  pub ends : t.ending ≡ ending_of i drive
