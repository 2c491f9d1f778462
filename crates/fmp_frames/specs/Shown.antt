-- What is shown of a run.
use Rattle.std.specs.Prelude.{ℕ, ◌+◌, List, Option, Some, None}
use Rattle.fmp_base.specs.Meanings.{Meaning}
use Rattle.fmp_base.specs.Steps.{Reaction}
use Rattle.fmp_frames.specs.Frames.{FrameTable, frame_of, frames_of_each}
use Rattle.fmp_frames.specs.Showing.{HasShown}
use Rattle.fmp_kernel.specs.KernelViews.{KernelView}

-- what a kernel shows of its last event
abbrev pub frame_now : {B C : Type 0} → (B → Meaning C) → KernelView B C → FrameTable
frame_now meaning k = frame_of k.system (meaning k.body) k.bound k.world k.lines

-- the number of the event of a frame, after one of this number: one that kept a place has no number of its own
abbrev pub number_after : (number : ℕ) → (kept : Option ℕ) → ℕ
number_after n None = n + 1
number_after n (Some p) = n

-- a viewer that began with the last frame of a kernel was shown all those of what comes to it from there on
pub record WasShown {V B C X : Type 0} (Begins : V → FrameTable → Type 0) (shown : V → FrameTable → V → Type 0)
    (meaning : B → Meaning C) (reaction : KernelView B C → X → Reaction C) (k : KernelView B C) (xs : List X)
    (last : V) :
    Type 0 where
  pub first : V
  pub begins : Begins first (frame_now meaning k)
  pub frames : HasShown shown first (frames_of_each meaning reaction k xs) last
