use Rattle.std.proofs.Common.{◌≡◌, ◌≤◌, ◌+◌, ◌-◌, vec_len, vec_capacity}
use Rattle.fmp_base.specs.States.{places_from}
use Rattle.fmp_base.specs.Ticks.{all_cycled, with_clock_advanced}
use Rattle.fmp_kernel.specs.NextTicks.{at_tick}
use Rattle.fmp_kernel.proofs.CyclicLemmas.{AreCycled}
use Rattle.fmp_kernel.proofs.ticks.cycle_all.Given as goal
use Rattle.fmp_tasks.specs.Tables.{progress, SameShape}

abbrev pub invariant-loop-c : goal.invariant-loop-c
invariant-loop-c l =
    let count = l.count in
    let rest = all_cycled l.fn.tables.system in
    let first = at_tick (progress l.fn.tables l.fn.caused.items) in
    let now = at_tick (progress l.tables l.caused.items) in
    record {
      progress : rest now (places_from l.c (count - l.c)) ≡ rest first (places_from 0 count);
      cycled : AreCycled (with_clock_advanced l.fn.tables.state) (with_clock_advanced l.tables.state) l.c;
      shape : SameShape l.fn.tables l.tables;
      room : vec_len l.caused ≤ vec_len l.fn.caused + l.c;
      capacity : vec_capacity l.caused ≡ vec_capacity l.fn.caused;
    }
