-- What a run of a kernel comes to, where something is expected of it.
use Rattle.std.specs.Prelude.{◌≡◌, List, Option, length, map}
use Rattle.std.specs.List.{range_with_len}
use Rattle.fmp_base.specs.declared.events.TaskState.{TaskState}
use Rattle.fmp_base.specs.Runs.{task_state}
use Rattle.fmp_base.specs.Steps.{Reaction}
use Rattle.fmp_kernel.specs.Comings.{view_after_each}
use Rattle.fmp_expect.specs.declared.checker.BrokenExpectation.{BrokenExpectation}
use Rattle.fmp_expect.specs.declared.checker.Watch.{Watch}
use Rattle.fmp_expect.specs.declared.expectation.Expected.{Expected}
use Rattle.fmp_expect.specs.Meaning.{Told, first_broken}
use Rattle.fmp_expect.specs.Runs.{run_told}
use Rattle.fmp_expect.specs.Watches.{AreTold}
use Rattle.fmp_kernel.specs.KernelViews.{KernelView}

-- the states of the tasks
abbrev pub states_in : {B C : Type 0} → KernelView B C → List TaskState
states_in k = map (task_state k.world.state) (range_with_len 0 (length k.system.tasks))

-- the first of these expectations that the run fails: by what it shows, or by the states of the tasks after it
abbrev pub verdict : {B C X : Type 0} → (KernelView B C → X → Reaction C) → KernelView B C → List X → List Expected
    → Option BrokenExpectation
verdict reaction k xs expected =
    let last = view_after_each reaction k xs in
    first_broken expected (run_told reaction k xs) (states_in last) last.done

-- the same of expectations after this was shown, where the kernel has come to the end of the run
abbrev pub IsVerdictAtEnd : {B C : Type 0} → KernelView B C → List Watch → Option BrokenExpectation → Type 0
IsVerdictAtEnd k watches broken =
    (xs : List Expected) → (told : List Told) → AreTold xs told watches
    → broken ≡ first_broken xs told (states_in k) k.done

-- a kernel has the bodies, the bound and the system of another one
pub record IsBeside {B C : Type 0} (k other : KernelView B C) : Type 0 where
  pub body : other.body ≡ k.body
  pub bound : other.bound ≡ k.bound
  pub system : other.system ≡ k.system
