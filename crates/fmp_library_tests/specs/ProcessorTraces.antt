-- Tasks of two processors.
use Rattle.std.specs.Prelude.{◌≡◌, List, [], ◌∷◌, replicate}
use Rattle.fmp_base.specs.declared.services.Service.TheVariants as service
use Rattle.fmp_base.specs.declared.events.Event.{Event}
use Rattle.fmp_base.specs.declared.events.Event.TheVariants.{Run}
use Rattle.fmp_base.specs.Systems.{SystemTables}
use Rattle.fmp_tasklang.specs.Trees.{BodyTree, while}
use Rattle.fmp_library_tests.specs.TraceBuilders.{active_task, in_second_class, on_one_only, system, one_on_each}
use Rattle.fmp_library_tests.specs.TraceBuilders.{spelled}
use Rattle.fmp_library_tests.specs.TraceBuilders.{whole, call, block_of, task, usual_bound, lines_of, printed_from}
use Rattle.fmp_library_tests.specs.TraceBuilders.{states_after}

-- a task in CLASS(TCL_1_ONLY) and one in CLASS(TCL_2)
abbrev pub bound_and_free : SystemTables
bound_and_free = system 2 (on_one_only (active_task "M" 0 10) ∷ in_second_class (active_task "N" 1 10) ∷ [])

-- m migrates itself to processor 2, and N to processor 1
abbrev pub migrating : List BodyTree
migrating =
    task "m" []
    (call service.MigTsk (spelled "M" ∷ whole 2 ∷ []) ∷
    call service.MigTsk (spelled "N" ∷ whole 1 ∷ []) ∷
    []) ∷
    task "e" [] [] ∷
    []

-- a task can't migrate to a processor that its class does not allow, nor from another processor than the caller's
abbrev pub MigrationRefused : Type 0
MigrationRefused =
    printed_from 1 bound_and_free migrating usual_bound (replicate 2 (Run 1)) ≡
    lines_of ("1 p1 M mig_tsk(1,2) E_PAR" ∷ "2 p1 M mig_tsk(2,1) E_OBJ" ∷ [])

-- two processors, and a task that starts on the first
abbrev pub one_of_two_processors : SystemTables
one_of_two_processors = system 2 (active_task "T" 0 10 ∷ [])

-- t is mact_tsk(TSK_SELF,2);
abbrev pub activating_itself : List BodyTree
activating_itself = task "t" [] (call service.MactTsk (whole 0 ∷ whole 2 ∷ []) ∷ []) ∷ []

-- a queued activation starts the task on the processor that was named
abbrev pub ActivationOnOtherProcessor : Type 0
ActivationOnOtherProcessor =
    printed_from 1 one_of_two_processors activating_itself usual_bound (Run 1 ∷ Run 1 ∷ Run 2 ∷ []) ≡
    lines_of
    ("1 p1 T mact_tsk(0,2) E_OK" ∷
    "2 p1 T end" ∷
    "2 p2 T starts" ∷
    "2 p2 > T" ∷
    "3 p2 T mact_tsk(0,2) E_OK" ∷
    [])

-- a is while (1) { }, b prints two numbers
abbrev pub looping : List BodyTree
looping =
    task "a" [] (while (whole 1) (block_of []) ∷ []) ∷
    task "b" [] (call service.Put (whole 1 ∷ []) ∷ call service.Put (whole 2 ∷ []) ∷ []) ∷
    []

-- the two processors take turns
abbrev pub looping_events : List Event
looping_events = Run 1 ∷ Run 2 ∷ Run 1 ∷ Run 2 ∷ Run 2 ∷ []

-- a loop without an end is nothing in a text's meaning, and leaves the other processor alone
abbrev pub EndlessLoopIsNothing : Type 0
EndlessLoopIsNothing =
    (printed_from 1 (one_on_each "A" "B") looping 1000 looping_events ≡
    lines_of ("1 p2 B put(1) E_OK" ∷ "2 p2 B put(2) E_OK" ∷ "3 p2 B end" ∷ [])) ×
    (states_after (one_on_each "A" "B") looping 1000 looping_events
    ≡ lines_of ("A RUNNING p1 10" ∷ "B DORMANT p2 10" ∷ []))

-- t disables dispatching, prints and enables it; s suspends T
abbrev pub suspending : List BodyTree
suspending =
    task "t" []
    (call service.DisDsp [] ∷
    call service.Put (whole 1 ∷ []) ∷
    call service.EnaDsp [] ∷
    []) ∷
    task "s" [] (call service.SusTsk (spelled "T" ∷ []) ∷ []) ∷
    []

-- processor 2 runs while dispatching is disabled on processor 1
abbrev pub suspending_events : List Event
suspending_events = Run 1 ∷ Run 2 ∷ Run 1 ∷ Run 1 ∷ []

-- a task that another processor suspends runs on until it enables dispatching
abbrev pub SuspendedTaskRunsOn : Type 0
SuspendedTaskRunsOn =
    (printed_from 1 (one_on_each "T" "S") suspending usual_bound suspending_events ≡
    lines_of
    ("1 p1 T dis_dsp() E_OK" ∷
    "2 p2 S sus_tsk(1) E_OK" ∷
    "3 p1 T put(1) E_OK" ∷
    "4 p1 T ena_dsp() E_OK" ∷
    "4 p1 > -" ∷
    [])) ×
    (states_after (one_on_each "T" "S") suspending usual_bound suspending_events ≡
    lines_of ("T SUSPENDED p1 10" ∷ "S RUNNING p2 10" ∷ []))
