use Rattle.fmp_base.specs.Systems.{tables_of}
use Rattle.fmp_named.proofs.Ends.{no_states, nothing_left}
use Rattle.fmp_named.proofs.states.append_states.Goals as goal

pub returns-in_default : goal.returns-in_default
returns-in_default c =
    nothing_left _ _ _ (no_states (tables_of c.args.sys.now) _ _ _ c.in_default.len_below) c.loop-task.invariant
