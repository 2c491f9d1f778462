use Rattle.std.proofs.Common.{◌≡◌, ◌++◌, ◌-◌, ◌≤◌, map, vec_len}
use Rattle.std.specs.Prelude.{vec_capacity}
use Rattle.fmp_base.specs.Runs.{task_state}
use Rattle.fmp_base.specs.States.{places_from}
use Rattle.fmp_engine.proofs.play.put_states.Given as goal

abbrev pub invariant-loop-t : goal.invariant-loop-t
invariant-loop-t g l = record {
  items : l.states.items ++ map (task_state l.kernel.world.state) (places_from l.t (l.count - l.t))
      ≡ map (task_state l.kernel.world.state) (places_from 0 l.count);
  len : vec_len l.states ≡ l.t;
  room : 255 ≤ vec_capacity l.states;
}
