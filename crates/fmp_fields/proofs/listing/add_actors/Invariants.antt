use Rattle.std.proofs.Common.{ℕ, ◌<◌}
use Rattle.fmp_base.specs.Systems.{tables_of}
use Rattle.fmp_fields.specs.Listing.{AreAmong, HasProcessor}
use Rattle.fmp_fields.proofs.listing.add_actors.Given as goal
use Rattle.fmp_instructions.specs.Instructions.{code_tables}

abbrev pub invariant-loop-p : goal.invariant-loop-p
invariant-loop-p l =
    record {
      kept : AreAmong l.initial.fields.items l.fields.items;
      added : (p : ℕ) → p < l.p → HasProcessor (tables_of l.fn.sys) (code_tables l.fn.code) p l.fields.items;
    }
