-- How the next run of a processor ends, as far as the stretch of its actor tells it.
use Rattle.std.specs.Prelude.{ℕ, ◌≡◌, ◌+◌, ◌<◌, List, Option, Some, None, get_or, length}
use Rattle.fmp_base.specs.Meanings.{Meaning}
use Rattle.fmp_base.specs.Stretches.{Ending}
use Rattle.fmp_base.specs.Stretches as ending
use Rattle.fmp_kernel.specs.declared.actors.Actor.{Actor}
use Rattle.fmp_kernel.specs.KernelViews.{KernelView, actor_in}
use Rattle.fmp_drive.specs.declared.next.NextRun.{NextRun}
use Rattle.fmp_drive.specs.declared.next.NextRun.TheVariants as next

-- what a stretch tells of the run that makes it
abbrev pub told_by : {C : Type 0} → Ending C → NextRun
told_by (ending.Call c call) = next.Calls call
told_by (ending.End c) = next.Ends
told_by (ending.Fault c fault) = next.Ends
told_by (ending.Over kept) = next.OverBound

-- how the run of an actor ends, if there is one
abbrev pub next_of : {B C : Type 0} → (B → Meaning C) → KernelView B C → Option (Actor C) → NextRun
next_of meaning k None = next.NoActor
next_of meaning k (Some a) = told_by ((meaning k.body).stretch a.entry k.bound a.context)

-- how the next run of the processor of this number ends
abbrev pub next_run : {B C : Type 0} → (B → Meaning C) → KernelView B C → ℕ → NextRun
next_run meaning k p = next_of meaning k (actor_in k p)

-- these are the next runs of the processors from 1 on
pub record AreNext {B C : Type 0} (meaning : B → Meaning C) (k : KernelView B C) (runs : List NextRun) : Type 0 where
  pub long : length runs ≡ 8
  pub each : (p : ℕ) → p < 8 → get_or runs p next.NoActor ≡ next_run meaning k (p + 1)
