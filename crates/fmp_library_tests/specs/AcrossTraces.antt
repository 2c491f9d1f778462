-- What a processor does to the tasks of another.
use Rattle.std.specs.Prelude.{◌≡◌, List, [], ◌∷◌, ◌++◌, replicate}
use Rattle.fmp_base.specs.declared.services.Service.TheVariants as service
use Rattle.fmp_base.specs.declared.events.Event.{Event}
use Rattle.fmp_base.specs.declared.events.Event.TheVariants.{Run, Int}
use Rattle.fmp_base.specs.declared.systems.Entry.TheVariants as entry
use Rattle.fmp_base.specs.Systems.{SystemTables}
use Rattle.fmp_tasklang.specs.Trees.{BodyTree}
use Rattle.fmp_library_tests.specs.TraceBuilders.{active_task, in_second_class, system, spin_lock, spelled, whole, call}
use Rattle.fmp_library_tests.specs.TraceBuilders.{task, handler, usual_bound, lines_of, printed}

-- a task of the first processor, two of the second, a spin lock, and a handler of interrupt 3 on the first processor
abbrev pub lock_and_interrupt : SystemTables
lock_and_interrupt =
    record (system 2
    (active_task "A" 0 10 ∷ in_second_class (active_task "B" 1 10) ∷ in_second_class (active_task "W" 2 5) ∷ [])) {
      spin_locks = spin_lock "L" ∷ [];
      interrupts = record { number = 3; entry = entry.Body 3; processor = 0 } ∷ [];
    }

-- a takes the lock; b takes it and gives it up; w sleeps; the handler wakes W
abbrev pub waking : List BodyTree
waking =
    task "a" [] (call service.LocSpn (spelled "L" ∷ []) ∷ []) ∷
    task "b" [] (call service.LocSpn (spelled "L" ∷ []) ∷ call service.UnlSpn (spelled "L" ∷ []) ∷ []) ∷
    task "w" [] (call service.SlpTsk [] ∷ []) ∷
    handler "h" [] (call service.IwupTsk (spelled "W" ∷ []) ∷ []) ∷
    []

abbrev pub waking_events : List Event
waking_events =
    Run 2 ∷ Run 2 ∷ Run 1 ∷ Int 3 ∷ Run 1 ∷ Run 1 ∷ Run 1 ∷ Run 2 ∷ Run 1 ∷ Run 2 ∷ []

-- a handler wakes a task of another processor, which holds a spin lock: the task runs once the lock is given up
abbrev pub WokenBehindASpinLock : Type 0
WokenBehindASpinLock =
    printed lock_and_interrupt waking usual_bound waking_events ≡
    lines_of
    ("0 p1 A starts" ∷
    "0 p2 B starts" ∷
    "0 p2 W starts" ∷
    "0 p1 > A" ∷
    "0 p2 > W" ∷
    "1 p2 W slp_tsk() wait" ∷
    "1 p2 > B" ∷
    "2 p2 B loc_spn(1) E_OK" ∷
    "3 int 3" ∷
    "3 p1 begin #3" ∷
    "4 p1 #3 iwup_tsk(3) E_OK" ∷
    "4 p2 W gets E_OK" ∷
    "5 p1 #3 end" ∷
    "6 p2 B unl_spn(1) E_OK" ∷
    "6 p2 > W" ∷
    "7 p1 A loc_spn(1) E_OK" ∷
    "8 p2 W end" ∷
    "8 p2 > B" ∷
    "A RUNNING p1 10" ∷
    "B RUNNING p2 10" ∷
    "W DORMANT p2 5" ∷
    [])

-- a task of the first processor, and two of the second
abbrev pub one_and_two : SystemTables
one_and_two =
    system 2
    (active_task "M" 0 10 ∷ in_second_class (active_task "A" 1 10) ∷ in_second_class (active_task "B" 2 10) ∷ [])

-- m terminates A, changes the priorities of B and A, activates B and terminates it; b migrates to processor 1 and
-- sleeps
abbrev pub reaching_over : List BodyTree
reaching_over =
    task "m" []
    (call service.TerTsk (spelled "A" ∷ []) ∷
    call service.ChgPri (spelled "B" ∷ whole 5 ∷ []) ∷
    call service.ChgPri (spelled "A" ∷ whole 5 ∷ []) ∷
    call service.ActTsk (spelled "B" ∷ []) ∷
    call service.TerTsk (spelled "B" ∷ []) ∷
    []) ∷
    task "a" [] [] ∷
    task "b" [] (call service.MigTsk (whole 0 ∷ whole 1 ∷ []) ∷ call service.SlpTsk [] ∷ []) ∷
    []

abbrev pub reaching_events : List Event
reaching_events = replicate 3 (Run 1) ++ Run 2 ∷ replicate 3 (Run 1) ++ Run 2 ∷ Run 1 ∷ []

-- ter_tsk is refused for a task of another processor; chg_pri dispatches on the other processor; a task that has
-- migrated is terminated where it is, and a queued activation starts it there
abbrev pub CallsAcrossProcessors : Type 0
CallsAcrossProcessors =
    printed one_and_two reaching_over usual_bound reaching_events ≡
    lines_of
    ("0 p1 M starts" ∷
    "0 p2 A starts" ∷
    "0 p2 B starts" ∷
    "0 p1 > M" ∷
    "0 p2 > A" ∷
    "1 p1 M ter_tsk(2) E_OBJ" ∷
    "2 p1 M chg_pri(3,5) E_OK" ∷
    "2 p2 > B" ∷
    "3 p1 M chg_pri(2,5) E_OK" ∷
    "4 p2 B mig_tsk(0,1) E_OK" ∷
    "4 p1 > B" ∷
    "4 p2 > A" ∷
    "5 p1 B slp_tsk() wait" ∷
    "5 p1 > M" ∷
    "6 p1 M act_tsk(3) E_OK" ∷
    "7 p1 M ter_tsk(3) E_OK" ∷
    "7 p1 B starts" ∷
    "8 p2 A end" ∷
    "9 p1 M end" ∷
    "9 p1 > B" ∷
    "M DORMANT p1 10" ∷
    "A DORMANT p2 10" ∷
    "B RUNNING p1 10" ∷
    [])
