use Rattle.std.proofs.Common.{◌≡◌, ◌≤◌, ◌+◌, ◌-◌, length, vec_len, vec_capacity}
use Rattle.fmp_base.specs.Settles.{all_settled}
use Rattle.fmp_base.specs.States.{places_from}
use Rattle.fmp_kernel.proofs.settling.settle_several.Given as goal
use Rattle.fmp_tasks.specs.Tables.{progress, SameShape}

abbrev pub invariant-loop-p : goal.invariant-loop-p
invariant-loop-p l =
    let count = length l.fn.tables.state.processors in
    let rest = all_settled l.fn.tables.system in
    record {
      progress : rest (progress l.tables l.lines.items) (places_from l.p (count - l.p))
          ≡ rest (progress l.fn.tables l.fn.lines.items) (places_from 0 count);
      shape : SameShape l.fn.tables l.tables;
      room : vec_len l.lines + 8 ≤ vec_capacity l.lines + l.p;
      capacity : vec_capacity l.lines ≡ vec_capacity l.fn.lines;
    }
