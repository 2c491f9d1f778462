-- Queued activations and wakeups.
use Rattle.std.specs.Prelude.{◌≡◌, List, [], ◌∷◌, replicate}
use Rattle.fmp_base.specs.declared.events.Event.TheVariants.{Run}
use Rattle.fmp_base.specs.declared.services.Service.{Service}
use Rattle.fmp_base.specs.declared.services.Service.TheVariants as service
use Rattle.fmp_base.specs.Systems.{SystemTables}
use Rattle.fmp_tasklang.specs.Trees.{BodyTree, while}
use Rattle.fmp_library_tests.specs.TraceBuilders.{active_task, system, one_on_each, in_older_image, spelled, whole}
use Rattle.fmp_library_tests.specs.TraceBuilders.{call}
use Rattle.fmp_library_tests.specs.TraceBuilders.{block_of, task, usual_bound, lines_of, printed_from}

-- m activates T, which runs on processor 2, for starts on processors 2 and 1; t ends at once
abbrev pub activating_twice : List BodyTree
activating_twice =
    task "m" []
    (call service.MactTsk (spelled "T" ∷ whole 2 ∷ []) ∷
    call service.MactTsk (spelled "T" ∷ whole 1 ∷ []) ∷
    []) ∷
    task "t" [] [] ∷
    []

-- the next start is on processor 1, which was stored last; the one after stays there
abbrev pub LastStoredProcessor : Type 0
LastStoredProcessor =
    printed_from 1 (one_on_each "M" "T") activating_twice usual_bound (Run 1 ∷ Run 1 ∷ Run 2 ∷ replicate 3 (Run 1)) ≡
    lines_of
    ("1 p1 M mact_tsk(2,2) E_OK" ∷
    "2 p1 M mact_tsk(2,1) E_OK" ∷
    "3 p2 T end" ∷
    "3 p1 T starts" ∷
    "4 p1 M end" ∷
    "4 p1 > T" ∷
    "5 p1 T end" ∷
    "5 p1 T starts" ∷
    "5 p1 > T" ∷
    "6 p1 T end" ∷
    [])

-- one task, which runs
abbrev pub one_task : SystemTables
one_task = system 1 (active_task "T" 0 10 ∷ [])

-- t makes a call on itself again and again
abbrev pub repeating : Service → List BodyTree
repeating s = task "t" [] (while (whole 1) (block_of (call s (whole 0 ∷ []) ∷ [])) ∷ []) ∷ []

-- the 256th activation is refused
abbrev pub ActivationsUpToTheLimit : Type 0
ActivationsUpToTheLimit =
    printed_from 255 one_task (repeating service.ActTsk) usual_bound (replicate 256 (Run 1)) ≡
    lines_of ("255 p1 T act_tsk(0) E_OK" ∷ "256 p1 T act_tsk(0) E_QOVR" ∷ [])

-- the 256th wakeup is refused
abbrev pub WakeupsUpToTheLimit : Type 0
WakeupsUpToTheLimit =
    printed_from 255 one_task (repeating service.WupTsk) usual_bound (replicate 256 (Run 1)) ≡
    lines_of ("255 p1 T wup_tsk(0) E_OK" ∷ "256 p1 T wup_tsk(0) E_QOVR" ∷ [])

-- the second activation is refused
abbrev pub OneActivationInOlderImage : Type 0
OneActivationInOlderImage =
    printed_from 1 (in_older_image one_task) (repeating service.ActTsk) usual_bound (replicate 2 (Run 1)) ≡
    lines_of ("1 p1 T act_tsk(0) E_OK" ∷ "2 p1 T act_tsk(0) E_QOVR" ∷ [])
