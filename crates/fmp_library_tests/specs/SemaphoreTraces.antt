-- Tasks that wait at a semaphore by priority.
use Rattle.std.specs.Prelude.{◌≡◌, List, [], ◌∷◌, ◌++◌, replicate}
use Rattle.fmp_base.specs.declared.services.Service.TheVariants as service
use Rattle.fmp_base.specs.declared.events.Event.TheVariants.{Run}
use Rattle.fmp_base.specs.declared.systems.QueueOrder.TheVariants.{Priority}
use Rattle.fmp_base.specs.Systems.{SystemTables}
use Rattle.fmp_tasklang.specs.Trees.{StatementTree, BodyTree}
use Rattle.fmp_library_tests.specs.TraceBuilders.{called, active_task, dormant_task, system, spelled, whole, call, task}
use Rattle.fmp_library_tests.specs.TraceBuilders.{usual_bound, lines_of, printed_from}

-- a main task, three tasks of priorities 10, 5 and 5, and a semaphore with TA_TPRI, the count 0 and the limit 3
abbrev pub main_and_three : SystemTables
main_and_three =
    record (system 1
    (active_task "M" 1 16 ∷ dormant_task "A" 0 10 ∷ dormant_task "B" 0 5 ∷ dormant_task "C" 0 5 ∷ [])) {
      semaphores = record { name = called "S"; order = Priority; initial = 0; most = 3 } ∷ [];
    }

-- wai_sem(S);
abbrev pub waiting : BodyTree
waiting = task "w" [] (call service.WaiSem (spelled "S" ∷ []) ∷ [])

-- act_tsk(A); act_tsk(B); act_tsk(C);
abbrev pub activating : List StatementTree
activating =
    call service.ActTsk (spelled "A" ∷ []) ∷
    call service.ActTsk (spelled "B" ∷ []) ∷
    call service.ActTsk (spelled "C" ∷ []) ∷
    []

-- sig_sem(S); sig_sem(S); sig_sem(S);
abbrev pub signalling : List StatementTree
signalling = replicate 3 (call service.SigSem (spelled "S" ∷ []))

-- w waits, m activates and signals
abbrev pub waiters_and_main : List BodyTree
waiters_and_main = waiting ∷ task "m" [] (activating ++ signalling) ∷ []

-- chg_pri(B,5);
abbrev pub changing : StatementTree
changing = call service.ChgPri (spelled "B" ∷ whole 5 ∷ [])

-- the same, with a change of priority before the first signal
abbrev pub waiters_and_changing_main : List BodyTree
waiters_and_changing_main = waiting ∷ task "m" [] (activating ++ changing ∷ signalling) ∷ []

-- the waiting tasks are released by priority, and those of one priority in their order
abbrev pub SemaphoreByPriority : Type 0
SemaphoreByPriority =
    printed_from 7 main_and_three waiters_and_main usual_bound (replicate 12 (Run 1)) ≡
    lines_of
    ("7 p1 M sig_sem(1) E_OK" ∷
    "7 p1 B gets E_OK" ∷
    "7 p1 > B" ∷
    "8 p1 B end" ∷
    "8 p1 > M" ∷
    "9 p1 M sig_sem(1) E_OK" ∷
    "9 p1 C gets E_OK" ∷
    "9 p1 > C" ∷
    "10 p1 C end" ∷
    "10 p1 > M" ∷
    "11 p1 M sig_sem(1) E_OK" ∷
    "11 p1 A gets E_OK" ∷
    "11 p1 > A" ∷
    "12 p1 A end" ∷
    "12 p1 > M" ∷
    [])

-- a task whose priority is set, even to what it is already, goes behind its equals in a queue by priority
abbrev pub PriorityChangeGoesLast : Type 0
PriorityChangeGoesLast =
    printed_from 7 main_and_three waiters_and_changing_main usual_bound (replicate 8 (Run 1)) ≡
    lines_of
    ("7 p1 M chg_pri(3,5) E_OK" ∷
    "8 p1 M sig_sem(1) E_OK" ∷
    "8 p1 C gets E_OK" ∷
    "8 p1 > C" ∷
    [])
