use Rattle.std.proofs.Common.{◌≡◌, ◌≤◌, ◌+◌, ◌*◌, ◌++◌, drop, vec_len}
use Rattle.std.specs.Prelude.{vec_capacity}
use Rattle.fmp_base.specs.Systems.{tables_of}
use Rattle.fmp_trace.specs.Fronts.{Begins}
use Rattle.fmp_trace.specs.ListedStates.{listed_states_text}
use Rattle.fmp_trace.proofs.states.append_states.Given as goal

abbrev pub invariant-loop-task : goal.invariant-loop-task
invariant-loop-task l = record {
  text : l.out.items ++ listed_states_text (tables_of l.sys) l.task (drop l.task l.states) ≡ l.initial.out.items
      ++ listed_states_text (tables_of l.sys) 0 l.states;
  kept : Begins l.initial.out.items l.out.items;
  size : vec_len l.out ≤ vec_len l.initial.out + 1024 * l.task;
  capacity : vec_capacity l.initial.out ≤ vec_capacity l.out;
}
