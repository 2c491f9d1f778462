-- Tasks that wait for bits of an eventflag.
use Rattle.std.specs.Prelude.{◌≡◌, List, [], ◌∷◌, true, replicate}
use Rattle.fmp_base.specs.declared.services.Service.TheVariants as service
use Rattle.fmp_base.specs.declared.events.Event.TheVariants.{Run}
use Rattle.fmp_base.specs.declared.systems.QueueOrder.TheVariants.{Fifo}
use Rattle.fmp_base.specs.Systems.{SystemTables}
use Rattle.fmp_tasklang.specs.Trees.{BodyTree}
use Rattle.fmp_library_tests.specs.TraceBuilders.{called, active_task, dormant_task, system, spelled, whole, call}
use Rattle.fmp_library_tests.specs.TraceBuilders.{call_into}
use Rattle.fmp_library_tests.specs.TraceBuilders.{task, usual_bound, lines_of, printed_from}

-- a main task, two tasks of one priority, and an eventflag with TA_WMUL and TA_CLR
abbrev pub main_and_two : SystemTables
main_and_two =
    record (system 1 (active_task "M" 1 16 ∷ dormant_task "A" 0 10 ∷ dormant_task "B" 0 10 ∷ [])) {
      flags = record { name = called "F"; order = Fifo; multiple = true; clears = true; initial = 0 } ∷ [];
    }

-- w waits for bit 0 (TWF_ANDW) and prints the pattern; m sets two bits and asks for bit 1 (TWF_ORW)
abbrev pub waiters_and_main : List BodyTree
waiters_and_main =
    task "w" ("p" ∷ [])
    (call_into service.WaiFlg (spelled "F" ∷ whole 1 ∷ whole 0 ∷ []) "p" ∷
    call service.Put (spelled "p" ∷ []) ∷
    []) ∷
    task "m" ("q" ∷ [])
    (call service.ActTsk (spelled "A" ∷ []) ∷
    call service.ActTsk (spelled "B" ∷ []) ∷
    call service.SetFlg (spelled "F" ∷ whole 3 ∷ []) ∷
    call_into service.PolFlg (spelled "F" ∷ whole 2 ∷ whole 1 ∷ []) "q" ∷
    []) ∷
    []

-- with TA_CLR the first task that is released clears all bits, and the next one waits on
abbrev pub FlagClearsAfterFirstRelease : Type 0
FlagClearsAfterFirstRelease =
    printed_from 5 main_and_two waiters_and_main usual_bound (replicate 8 (Run 1)) ≡
    lines_of
    ("5 p1 M set_flg(1,3) E_OK" ∷
    "5 p1 A gets E_OK 3" ∷
    "5 p1 > A" ∷
    "6 p1 A put(3) E_OK" ∷
    "7 p1 A end" ∷
    "7 p1 > M" ∷
    "8 p1 M pol_flg(1,2,1) E_TMOUT" ∷
    [])
