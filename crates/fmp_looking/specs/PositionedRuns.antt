-- A run of an image from setup on, whose calls stand at positions of a text.
use Rattle.std.specs.Prelude.{List, [], ◌≡◌, Option}
use Rattle.fmp_instructions.specs.declared.instructions.MachineContext.{MachineContext}
use Rattle.fmp_instructions.specs.Instructions.{BodyTables}
use Rattle.fmp_instructions.specs.Machine.{code_meaning}
use Rattle.fmp_kernel.specs.KernelViews.{KernelView}
use Rattle.fmp_replay.specs.Replays.{kernel_after}
use Rattle.fmp_frames.specs.declared.call_positions.CallPosition.{CallPosition}
use Rattle.fmp_frames.specs.Made.{positions_made}
use Rattle.fmp_looking.specs.declared.branches.BranchStep.{BranchStep}
use Rattle.fmp_looking.specs.declared.observing.CallSeen.{CallSeen}
use Rattle.fmp_looking.specs.declared.run_positions.PositionedRun.{PositionedRun}
use Rattle.fmp_looking.specs.Branches.{branch_steps}
use Rattle.fmp_looking.specs.Observed.{calls_seen}

-- the kernel of its image after setup
abbrev pub start_of : PositionedRun → KernelView (List BodyTables) MachineContext
start_of r = kernel_after r.image.now r.bound []

-- for each event that is done where the call stands that it makes
abbrev pub positions_in : PositionedRun → List (Option CallPosition)
positions_in r = positions_made code_meaning r.image.now.code r.positions.now (start_of r) r.events.now

-- the calls of earlier runs, and those of this one after them
abbrev pub calls_in : PositionedRun → List CallSeen → List CallSeen
calls_in r calls = calls_seen code_meaning r.image.now.code r.positions.now (start_of r) r.events.now calls

-- the ways that branches went
abbrev pub steps_in : PositionedRun → List BranchStep
steps_in r = branch_steps code_meaning r.image.now.code (start_of r) r.events.now
