-- Tasks that wait for the clock.
use Rattle.std.specs.Prelude.{◌≡◌, List, [], ◌∷◌}
use Rattle.fmp_base.specs.declared.services.Service.TheVariants as service
use Rattle.fmp_base.specs.declared.events.Event.TheVariants.{Run, Tick}
use Rattle.fmp_base.specs.Systems.{SystemTables}
use Rattle.fmp_tasklang.specs.Trees.{BodyTree}
use Rattle.fmp_library_tests.specs.TraceBuilders.{active_task, system, whole, call, task, usual_bound, lines_of}
use Rattle.fmp_library_tests.specs.TraceBuilders.{printed_from}

-- three tasks, of which the last is the most urgent
abbrev pub three_tasks : SystemTables
three_tasks = system 1 (active_task "A" 0 10 ∷ active_task "B" 1 10 ∷ active_task "C" 1 5 ∷ [])

-- a is dly_tsk(0), b is dly_tsk(1)
abbrev pub delaying : List BodyTree
delaying =
    task "a" [] (call service.DlyTsk (whole 0 ∷ []) ∷ []) ∷
    task "b" [] (call service.DlyTsk (whole 1 ∷ []) ∷ []) ∷
    []

-- delays that end at one tick end in order of task number, whichever began first
abbrev pub DelaysEndInTaskOrder : Type 0
DelaysEndInTaskOrder =
    printed_from 1 three_tasks delaying usual_bound (Run 1 ∷ Run 1 ∷ Run 1 ∷ Tick ∷ Tick ∷ []) ≡
    lines_of
    ("1 p1 C dly_tsk(1) wait" ∷
    "1 p1 > A" ∷
    "2 p1 A dly_tsk(0) wait" ∷
    "2 p1 > B" ∷
    "3 p1 B dly_tsk(1) wait" ∷
    "3 p1 > -" ∷
    "4 tick 1" ∷
    "4 p1 A gets E_OK" ∷
    "4 p1 > A" ∷
    "5 tick 2" ∷
    "5 p1 B gets E_OK" ∷
    "5 p1 C gets E_OK" ∷
    "5 p1 > C" ∷
    [])
