use Rattle.std.proofs.Common.{ℕ, ◌<◌}
use Rattle.fmp_base.specs.Meanings.{task_body}
use Rattle.fmp_base.specs.Systems.{tables_of}
use Rattle.fmp_fields.specs.Listing.{AreAmong, HasTask}
use Rattle.fmp_fields.proofs.listing.add_tasks.Given as goal
use Rattle.fmp_instructions.specs.Instructions.{code_tables}

abbrev pub invariant-loop-t : goal.invariant-loop-t
invariant-loop-t l =
    record {
      kept : AreAmong l.fn.fields.items l.fields.items;
      added : (t : ℕ) → t < l.t → HasTask (code_tables l.fn.code) t (task_body (tables_of l.fn.sys) t) l.fields.items;
    }
