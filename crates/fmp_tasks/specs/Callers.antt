-- Who may call: a handler, or a task of the system.
use Rattle.std.specs.Prelude.{◌<◌, length}
use Rattle.fmp_base.specs.declared.states.Caller.{Caller}
use Rattle.fmp_base.specs.declared.states.Caller.TheVariants as caller
use Rattle.fmp_base.specs.Systems.{SystemTables}

-- a task that calls is one of the system
abbrev pub IsTaskOf : SystemTables → Caller → Type 0
IsTaskOf sys (caller.Task t) = t < length sys.tasks
IsTaskOf sys (caller.Handler h) = Unit {0}
