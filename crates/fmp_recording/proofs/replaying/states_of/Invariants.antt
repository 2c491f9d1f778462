use Rattle.std.proofs.Common.{◌≡◌, ◌++◌, ◌-◌, map}
use Rattle.fmp_base.specs.Runs.{task_state}
use Rattle.fmp_base.specs.States.{places_from}
use Rattle.fmp_recording.proofs.replaying.states_of.Given as goal

-- the states so far, and those of the tasks that are left
abbrev pub invariant-loop-t : goal.invariant-loop-t
invariant-loop-t l =
    l.states.items ++ map (task_state l.kernel.world.state) (places_from l.t (l.count - l.t))
    ≡ map (task_state l.kernel.world.state) (places_from 0 l.count)
