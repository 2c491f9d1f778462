-- What is seen of a run, and what is said of it.
use Rattle.std.specs.Prelude.{◌≡◌, ℕ, ◌+◌, ◌<◌, ◌≤◌, ◌^◌, Bool, true, false, List, [], ◌∷◌, length, map, min, take}
use Rattle.fmp_base.specs.Meanings.{Meaning}
use Rattle.fmp_base.specs.Steps.{Reaction}
use Rattle.fmp_base.specs.Systems.{SystemTables}
use Rattle.fmp_drive.specs.declared.next.NextRun.{NextRun}
use Rattle.fmp_drive.specs.declared.next.NextRun.TheVariants as next
use Rattle.fmp_drive.specs.NextRuns.{AreNext}
use Rattle.fmp_kernel.specs.Comings.{view_after_each}
use Rattle.fmp_frames.specs.Frames.{FrameTable, frames_of_each}
use Rattle.fmp_frames.specs.Shown.{frame_now, number_after}
use Rattle.fmp_kernel.specs.KernelViews.{KernelView}
use Rattle.fmp_frames.specs.declared.watching.RunWatcher.{RunWatcher}
use Rattle.fmp_why.specs.Histories.{Told, told_with}
use Rattle.fmp_why.specs.HistoryTables.{IsTold, Tables, tables}
use Rattle.fmp_why.specs.Reports.{Sight, report}

-- the tasks, the processors and what they spin for are seen as a frame has them
pub record IsSeen (x : RunWatcher) (f : FrameTable) : Type 0 where
  pub blocks : x.blocks.items ≡ f.blocks
  pub processors : x.processors.items ≡ f.processors
  pub spins : x.spins.items ≡ f.spins

-- one frame more is seen: it told its lines, and the rest is as it has it; numbers of events are below 2^32
pub record IsSeenFurther (x : RunWatcher) (f : FrameTable) (y : RunWatcher) : Type 0 where
  pub seen : IsSeen y f
  pub number : x.number + 1 < 2 ^ 32 → y.number ≡ number_after x.number f.kept
  pub told : (sys : SystemTables) (told : Told) → IsTold sys told (tables x.history)
      → IsTold sys (told_with f.lines y.number told) (tables y.history)

-- what frames told after an event of this number, each line with the number of its event, the newest first
abbrev pub told_after : (number : ℕ) → List FrameTable → Told → Told
told_after n [] told = told
told_after n (f ∷ fs) told =
    told_after (number_after n f.kept) fs (told_with f.lines (number_after n f.kept) told)

-- what was told of a run: of setup, which is event 0, and of what came after it
abbrev pub told_of_run : {B C X : Type 0} → (B → Meaning C) → (KernelView B C → X → Reaction C) → KernelView B C
    → List X → Told
told_of_run meaning reaction k xs = told_after 0 (frames_of_each meaning reaction k xs) (told_with k.lines 0 [])

-- the next run of a processor reaches the bound
abbrev pub is_over : NextRun → Bool
is_over next.OverBound = true
is_over _ = false

-- a frame, the next runs of its processors, and what was told before
abbrev pub sight_of : SystemTables → Tables → FrameTable → List NextRun → Sight
sight_of sys h f runs =
    record {
      sys = sys;
      history = h;
      blocks = f.blocks;
      processors = f.processors;
      spins = f.spins;
      over = map is_over (take (min (length f.processors) 8) runs);
    }

-- the same of what was seen of a run
abbrev pub sight_seen : SystemTables → RunWatcher → List NextRun → Sight
sight_seen sys x runs =
    record {
      sys = sys;
      history = tables x.history;
      blocks = x.blocks.items;
      processors = x.processors.items;
      spins = x.spins.items;
      over = map is_over (take (min (length x.processors.items) 8) runs);
    }

-- The text is the report on a kernel after what came to it: on its tasks and processors as they are then, on what they
-- spin for, on the processors whose next run reaches the bound, and on what the run has told.
pub record IsWhy {B C X : Type 0} (sys : SystemTables) (meaning : B → Meaning C)
    (reaction : KernelView B C → X → Reaction C)
    (k : KernelView B C) (xs : List X) (text : List ℕ) : Type 0 where
  pub history : Tables
  pub told : IsTold sys (told_of_run meaning reaction k xs) history
  pub runs : List NextRun
  pub next : AreNext meaning (view_after_each reaction k xs) runs
  pub text_is : text ≡ report (sight_of sys history (frame_now meaning (view_after_each reaction k xs)) runs)

-- a kernel after the first i of what comes to it
abbrev pub after_first : {B C X : Type 0} → (KernelView B C → X → Reaction C) → KernelView B C → List X → ℕ
    → KernelView B C
after_first reaction k xs i = view_after_each reaction k (take i xs)

-- this is as few of what comes as leads up to the event of a number: it is done then, unless this is all, and it is not
-- done with fewer
pub record LeadUp {B C X : Type 0} (reaction : KernelView B C → X → Reaction C) (k : KernelView B C) (xs : List X)
    (number count : ℕ) : Type 0 where
  pub done : count < length xs → number ≤ (after_first reaction k xs count).done
  pub before : (i : ℕ) → i < count → (after_first reaction k xs i).done < number
