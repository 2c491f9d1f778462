-- Kernels of images that take events.
use Rattle.std.specs.Prelude.{◌≡◌, ◌≤◌, ℕ, List, length}
use Rattle.fmp_base.specs.declared.events.Event.{Event}
use Rattle.fmp_instructions.specs.declared.instructions.MachineContext.{MachineContext}
use Rattle.fmp_instructions.specs.Instructions.{BodyTables}
use Rattle.fmp_image_bytes.specs.Images.{ImageTables}
use Rattle.fmp_kernel.specs.KernelViews.{KernelView}
use Rattle.fmp_replay.specs.Replays.{replay}

-- a kernel over the bodies of an image with this bound, to which these events came: its world is that of their replay
pub record HasSeen (i : ImageTables) (n : ℕ) (es : List Event) (k : KernelView (List BodyTables) MachineContext)
    : Type 0 where
  pub body : k.body ≡ i.code
  pub bound : k.bound ≡ n
  pub system : k.system ≡ i.system
  pub world : k.world ≡ (replay i n es).world
  pub taken : k.taken ≤ length es
