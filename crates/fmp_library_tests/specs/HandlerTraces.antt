-- Interrupt handlers and cyclic handlers.
use Rattle.std.specs.Prelude.{◌≡◌, pos, List, [], ◌∷◌, ◌++◌, true, replicate}
use Rattle.fmp_base.specs.declared.services.Service.TheVariants as service
use Rattle.fmp_base.specs.declared.events.Event.{Event}
use Rattle.fmp_base.specs.declared.events.Event.TheVariants.{Run, Tick, Int}
use Rattle.fmp_base.specs.declared.systems.Entry.TheVariants as entry
use Rattle.fmp_base.specs.Systems.{SystemTables}
use Rattle.fmp_tasklang.specs.Trees.{BodyTree}
use Rattle.fmp_library_tests.specs.TraceBuilders.{called, active_task, dormant_task, system, spelled, whole, call, task}
use Rattle.fmp_library_tests.specs.TraceBuilders.{handler, usual_bound, lines_of, printed_at_setup, printed_from}

-- a task, a more urgent one that is dormant, and a handler of interrupt 3
abbrev pub two_and_interrupt : SystemTables
two_and_interrupt =
    record (system 1 (active_task "T" 0 10 ∷ dormant_task "U" 1 5 ∷ [])) {
      interrupts = record { number = 3; entry = entry.Body 2; processor = 0 } ∷ [];
    }

-- t locks and unlocks the CPU and prints; the handler activates U
abbrev pub locking_and_activating : List BodyTree
locking_and_activating =
    task "t" []
    (call service.LocCpu [] ∷
    call service.UnlCpu [] ∷
    call service.Put (whole 1 ∷ []) ∷
    []) ∷
    task "u" [] [] ∷
    handler "h" [] (call service.IactTsk (spelled "U" ∷ []) ∷ []) ∷
    []

-- the interrupt is requested twice while the CPU is locked
abbrev pub events_while_locked : List Event
events_while_locked = Run 1 ∷ Int 3 ∷ Int 3 ∷ replicate 4 (Run 1)

-- an interrupt waits until the CPU is unlocked, and is taken once; dispatch waits until its handler has ended
abbrev pub InterruptWaitsForUnlock : Type 0
InterruptWaitsForUnlock =
    printed_at_setup two_and_interrupt locking_and_activating
    ++ printed_from 1 two_and_interrupt locking_and_activating usual_bound events_while_locked ≡
    lines_of
    ("0 p1 T starts" ∷
    "0 p1 > T" ∷
    "1 p1 T loc_cpu() E_OK" ∷
    "2 int 3" ∷
    "3 p1 T unl_cpu() E_OK" ∷
    "3 p1 begin #3" ∷
    "4 p1 #3 iact_tsk(2) E_OK" ∷
    "4 p1 U starts" ∷
    "5 p1 #3 end" ∷
    "5 p1 > U" ∷
    "6 p1 U end" ∷
    "6 p1 > T" ∷
    [])

-- the interrupt is requested again while its handler runs
abbrev pub events_while_handled : List Event
events_while_handled = Int 3 ∷ Run 1 ∷ Int 3 ∷ replicate 5 (Run 1)

-- an interrupt whose handler runs is pending, and the handler begins again once it has ended
abbrev pub InterruptPendsWhileHandled : Type 0
InterruptPendsWhileHandled =
    printed_from 1 two_and_interrupt locking_and_activating usual_bound events_while_handled ≡
    lines_of
    ("1 int 3" ∷
    "1 p1 begin #3" ∷
    "2 p1 #3 iact_tsk(2) E_OK" ∷
    "2 p1 U starts" ∷
    "3 int 3" ∷
    "4 p1 #3 end" ∷
    "4 p1 begin #3" ∷
    "5 p1 #3 iact_tsk(2) E_OK" ∷
    "6 p1 #3 end" ∷
    "6 p1 > U" ∷
    "7 p1 U end" ∷
    "7 p1 U starts" ∷
    "7 p1 > U" ∷
    "8 p1 U end" ∷
    "8 p1 > T" ∷
    [])

-- a cyclic handler with TA_STA, the period 2 and the phase 0
abbrev pub one_cyclic : SystemTables
one_cyclic =
    record (system 1 []) {
      cyclics =
          record {
            name = called "C";
            started = true;
            exinf = pos 0;
            entry = entry.Body 0;
            period = 2;
            phase = 0;
            processor = 0;
          } ∷
          [];
    }

-- h is put(exinf);
abbrev pub printing_exinf : List BodyTree
printing_exinf = handler "h" [] (call service.Put (spelled "exinf" ∷ []) ∷ []) ∷ []

-- a cyclic handler is due first one tick after its phase, then after each period
abbrev pub CyclicHandlerStartsAtPhase : Type 0
CyclicHandlerStartsAtPhase =
    printed_from 1 one_cyclic printing_exinf usual_bound (Tick ∷ Run 1 ∷ Run 1 ∷ Tick ∷ Tick ∷ []) ≡
    lines_of
    ("1 tick 1" ∷
    "1 p1 cyc C" ∷
    "1 p1 begin C" ∷
    "2 p1 C put(0) E_OK" ∷
    "3 p1 C end" ∷
    "4 tick 2" ∷
    "5 tick 3" ∷
    "5 p1 cyc C" ∷
    "5 p1 begin C" ∷
    [])
