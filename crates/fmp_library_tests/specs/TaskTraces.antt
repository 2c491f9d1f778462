-- Tasks that start, run, sleep and end.
use Rattle.std.specs.Prelude.{◌≡◌, ℕ, List, [], ◌∷◌, replicate}
use Rattle.fmp_base.specs.declared.services.Service.TheVariants as service
use Rattle.fmp_base.specs.declared.events.Event.TheVariants.{Run}
use Rattle.fmp_base.specs.Systems.{SystemTables}
use Rattle.fmp_tasklang.specs.Trees.{BodyTree}
use Rattle.fmp_library_tests.specs.TraceBuilders.{active_task, dormant_task, system, spelled, whole, call, task}
use Rattle.fmp_library_tests.specs.TraceBuilders.{usual_bound}
use Rattle.fmp_library_tests.specs.TraceBuilders.{lines_of, printed, printed_from}

-- one task, which starts at setup
abbrev pub one_task : SystemTables
one_task = system 1 (active_task "T1" 0 10 ∷ [])

-- main is put(7);
abbrev pub putting : List BodyTree
putting = task "main" [] (call service.Put (whole 7 ∷ []) ∷ []) ∷ []

-- the whole trace of that task and its state at the end
abbrev pub one_task_text : List ℕ
one_task_text =
    lines_of
    ("0 p1 T1 starts" ∷
    "0 p1 > T1" ∷
    "1 p1 T1 put(7) E_OK" ∷
    "2 p1 T1 end" ∷
    "T1 DORMANT p1 10" ∷
    [])

-- a task starts at setup, makes a call and ends; then its processor has nothing to run
abbrev pub TaskRunsAndEnds : Type 0
TaskRunsAndEnds = printed one_task putting usual_bound (replicate 3 (Run 1)) ≡ one_task_text

-- a small bound changes nothing if there is no loop
abbrev pub SmallBoundIsEnough : Type 0
SmallBoundIsEnough = printed one_task putting 2 (replicate 3 (Run 1)) ≡ one_task_text

-- a system without tasks prints nothing
abbrev pub EmptySystemPrintsNothing : Type 0
EmptySystemPrintsNothing = printed (system 1 []) [] usual_bound (Run 1 ∷ []) ≡ lines_of []

-- a main task, and a more urgent one that is dormant
abbrev pub main_and_sleeper : SystemTables
main_and_sleeper = system 1 (active_task "M" 1 16 ∷ dormant_task "A" 0 10 ∷ [])

-- a sleeps; m activates it and releases it twice
abbrev pub releasing_twice : List BodyTree
releasing_twice =
    task "a" [] (call service.SlpTsk [] ∷ []) ∷
    task "m" []
    (call service.ActTsk (spelled "A" ∷ []) ∷
    call service.RelWai (spelled "A" ∷ []) ∷
    call service.RelWai (spelled "A" ∷ []) ∷
    []) ∷
    []

-- rel_wai releases a sleeping task with E_RLWAI, and is refused for a dormant one
abbrev pub SleepIsReleasedByForce : Type 0
SleepIsReleasedByForce =
    printed_from 1 main_and_sleeper releasing_twice usual_bound (replicate 5 (Run 1)) ≡
    lines_of
    ("1 p1 M act_tsk(2) E_OK" ∷
    "1 p1 A starts" ∷
    "1 p1 > A" ∷
    "2 p1 A slp_tsk() wait" ∷
    "2 p1 > M" ∷
    "3 p1 M rel_wai(2) E_OK" ∷
    "3 p1 A gets E_RLWAI" ∷
    "3 p1 > A" ∷
    "4 p1 A end" ∷
    "4 p1 > M" ∷
    "5 p1 M rel_wai(2) E_OBJ" ∷
    [])
