use Rattle.std.proofs.Common.{◌≡◌, ◌≤◌, ◌-◌, length, vec_len, vec_capacity}
use Rattle.fmp_base.specs.Setups.{all_started}
use Rattle.fmp_base.specs.States.{places_from, unchanged}
use Rattle.fmp_kernel.proofs.starting.start_active.Given as goal
use Rattle.fmp_tasks.specs.Tables.{progress, SameShape}

abbrev pub invariant-loop-t : goal.invariant-loop-t
invariant-loop-t l =
    let count = length l.fn.tables.system.tasks in
    let rest = all_started l.fn.tables.system in
    record {
      progress : rest (progress l.tables l.caused.items) (places_from l.t (count - l.t))
          ≡ rest (unchanged l.fn.tables.state) (places_from 0 count);
      shape : SameShape l.fn.tables l.tables;
      long : vec_len l.caused ≤ l.t;
      capacity : vec_capacity l.caused ≡ vec_capacity l.fn.caused;
    }
