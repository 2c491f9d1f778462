use Rattle.std.proofs.Common.{◌≡◌, ◌≤◌, ◌-◌, length, vec_len, vec_capacity}
use Rattle.fmp_base.specs.States.{places_from, unchanged}
use Rattle.fmp_base.specs.Ticks.{all_timed_out, with_clock_advanced}
use Rattle.fmp_kernel.specs.NextTicks.{at_tick}
use Rattle.fmp_kernel.proofs.TickLemmas.{Passed}
use Rattle.fmp_kernel.proofs.ticks.time_out_all.Given as goal
use Rattle.fmp_tasks.specs.Tables.{progress, SameShape}

-- the releases still to come complete the whole; as many first tasks as were released are not due
abbrev pub invariant-loop-t : goal.invariant-loop-t
invariant-loop-t l =
    let now = at_tick (progress l.tables l.caused.items) in
    let all = places_from 0 (length l.fn.tables.state.tasks) in
    record {
      progress : all_timed_out now all ≡ all_timed_out (unchanged (with_clock_advanced l.fn.tables.state)) all;
      shape : SameShape l.fn.tables l.tables;
      passed : Passed now (vec_len l.caused);
      few : vec_len l.caused ≤ length l.fn.tables.system.tasks;
      capacity : vec_capacity l.caused ≡ vec_capacity l.fn.caused;
    }

abbrev pub decreases-loop-t : goal.decreases-loop-t
decreases-loop-t l = length l.fn.tables.state.tasks - vec_len l.caused
