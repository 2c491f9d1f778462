-- What the actors of processors spin for: what their next runs would come to.
use Rattle.std.specs.Prelude.{ℕ, List, Option, Some, None, length}
use Rattle.fmp_base.specs.declared.calls.Call.{Call}
use Rattle.fmp_base.specs.declared.states.Processor.{Processor}
use Rattle.fmp_base.specs.Meanings.{Meaning, World}
use Rattle.fmp_base.specs.States.{processor_at}
use Rattle.fmp_base.specs.Stretches.{Ending}
use Rattle.fmp_base.specs.Stretches as ending
use Rattle.fmp_base.specs.Systems.{SystemTables}
use Rattle.fmp_worlds.specs.Stamps.{Going, actor_at}
use Rattle.fmp_why.specs.declared.obstacles.SpinWait.{SpinWait}
use Rattle.fmp_why.specs.Obstacles.{spin_on}

-- the call that a stretch ends with, if it ends with one
abbrev pub call_of : {C : Type 0} → Ending C → Option Call
call_of (ending.Call c made) = Some made
call_of (ending.End c) = None
call_of (ending.Fault c fault) = None
call_of (ending.Over kept) = None

abbrev pub call_by : {C : Type 0} → Meaning C → (bound : ℕ) → Option (Going C) → Option Call
call_by M bound None = None
call_by M bound (Some a) = call_of (M.stretch a.entry bound a.context)

-- the call that the next run of the processor at place p comes to, if it comes to one
abbrev pub next_call : {C : Type 0} → SystemTables → Meaning C → (bound : ℕ) → World C → ℕ → Option Call
next_call sys M bound w p = call_by M bound (actor_at sys w p)

-- what the actor of the processor at place p spins for, given all processors
abbrev pub spin_at : {C : Type 0} → SystemTables → Meaning C → (bound : ℕ) → World C → List Processor → ℕ
    → Option SpinWait
spin_at sys M bound w cpus p =
    spin_on cpus (length sys.spin_locks) (processor_at w.state p) (next_call sys M bound w p)
