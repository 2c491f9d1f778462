use Rattle.fmp_base.specs.Systems.{tables_of}
use Rattle.fmp_named.proofs.Ends.{no_records, nothing_left}
use Rattle.fmp_named.proofs.records.append_state_records.Goals as goal

pub returns-in_default : goal.returns-in_default
returns-in_default c =
    nothing_left _ _ _ (no_records (tables_of c.args.sys.now) _ _ _ c.in_default.len_below) c.loop-task.invariant
