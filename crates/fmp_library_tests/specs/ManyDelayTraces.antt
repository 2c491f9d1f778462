-- As many tasks as a system can have, which all wait for the same tick.
use Rattle.std.specs.Prelude.{◌≡◌, ℕ, true, List, [], ◌∷◌, ◌++◌, codes, decimal, map, replicate}
use Rattle.fmp_base.specs.declared.services.Service.TheVariants as service
use Rattle.fmp_base.specs.declared.events.Event.{Event}
use Rattle.fmp_base.specs.declared.events.Event.TheVariants.{Run, Tick}
use Rattle.fmp_base.specs.declared.systems.TaskConfig.{TaskConfig}
use Rattle.fmp_base.specs.Names.{name_from}
use Rattle.fmp_base.specs.States.{places_from}
use Rattle.fmp_base.specs.Systems.{SystemTables}
use Rattle.fmp_tasklang.specs.Trees.{BodyTree}
use Rattle.fmp_library_tests.specs.TraceBuilders.{created_task, system, whole, call, task, usual_bound, lines_of}
use Rattle.fmp_library_tests.specs.TraceBuilders.{printed_from}

-- the task of a number: its name is T and the number
abbrev pub task_numbered : ℕ → TaskConfig
task_numbered k = created_task true (name_from (codes "T" ++ decimal k)) 0 1

-- n of these tasks, each of which starts at setup
abbrev pub many_tasks : ℕ → SystemTables
many_tasks n = system 1 (map task_numbered (places_from 1 n))

-- d is dly_tsk(5);
abbrev pub delaying : List BodyTree
delaying = task "d" [] (call service.DlyTsk (whole 5 ∷ []) ∷ []) ∷ []

-- each task is run once, then there are six ticks
abbrev pub delaying_events : ℕ → List Event
delaying_events n = replicate n (Run 1) ++ replicate 6 Tick

-- the lines of event k for the releases of these tasks
abbrev pub releases : ℕ → List ℕ → List ℕ
releases k [] = []
releases k (t ∷ ts) = decimal k ++ (codes " p1 T" ++ (decimal t ++ (codes " gets E_OK" ++ 10 ∷ releases k ts)))

-- each tick prints its own line; the sixth releases all tasks
abbrev pub ticks_text : List ℕ
ticks_text =
    lines_of ("256 tick 1" ∷ "257 tick 2" ∷ "258 tick 3" ∷ "259 tick 4" ∷ "260 tick 5" ∷ "261 tick 6" ∷ [])
    ++ releases 261 (places_from 1 255)
    ++ lines_of ("261 p1 > T1" ∷ [])

-- tasks whose delays end at one tick are released in order of their numbers, and then the first of them runs
abbrev pub AllDelaysEndAtOnce : Type 0
AllDelaysEndAtOnce = printed_from 256 (many_tasks 255) delaying usual_bound (delaying_events 255) ≡ ticks_text
