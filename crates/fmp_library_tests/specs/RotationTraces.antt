-- The rotation of the ready queues of any processor.
use Rattle.std.specs.Prelude.{◌≡◌, ℕ, List, [], ◌∷◌, replicate}
use Rattle.fmp_base.specs.declared.events.Event.TheVariants.{Run}
use Rattle.fmp_base.specs.declared.services.Service.TheVariants as service
use Rattle.fmp_base.specs.Systems.{SystemTables}
use Rattle.fmp_tasklang.specs.Trees.{BodyTree}
use Rattle.fmp_library_tests.specs.TraceBuilders.{active_task, in_second_class, system, whole, call, task, usual_bound}
use Rattle.fmp_library_tests.specs.TraceBuilders.{lines_of, printed, printed_from}

-- task M on processor 1, and A and B of priority 10 on processor 2
abbrev pub one_and_two : (priority : ℕ) → SystemTables
one_and_two priority =
    system 2
    (active_task "M" 0 priority ∷
    in_second_class (active_task "A" 1 10) ∷
    in_second_class (active_task "B" 1 10) ∷
    [])

-- m is mrot_rdq(10,2); mrot_rdq(10,3);
abbrev pub rotating : List BodyTree
rotating =
    task "m" []
    (call service.MrotRdq (whole 10 ∷ whole 2 ∷ []) ∷ call service.MrotRdq (whole 10 ∷ whole 3 ∷ []) ∷ []) ∷
    task "a" [] [] ∷
    []

-- B comes before A; there is no third processor
abbrev pub RotationOnOtherProcessor : Type 0
RotationOnOtherProcessor =
    printed (one_and_two 10) rotating usual_bound (Run 1 ∷ Run 1 ∷ Run 2 ∷ []) ≡
    lines_of
    ("0 p1 M starts" ∷
    "0 p2 A starts" ∷
    "0 p2 B starts" ∷
    "0 p1 > M" ∷
    "0 p2 > A" ∷
    "1 p1 M mrot_rdq(10,2) E_OK" ∷
    "1 p2 > B" ∷
    "2 p1 M mrot_rdq(10,3) E_PAR" ∷
    "3 p2 B end" ∷
    "3 p2 > A" ∷
    "M RUNNING p1 10" ∷
    "A RUNNING p2 10" ∷
    "B DORMANT p2 10" ∷
    [])

-- m is mrot_rdq(TPRI_SELF,2); chg_pri(TSK_SELF,10); mrot_rdq(TPRI_SELF,2);
abbrev pub rotating_own : List BodyTree
rotating_own =
    task "m" []
    (call service.MrotRdq (whole 0 ∷ whole 2 ∷ []) ∷
    call service.ChgPri (whole 0 ∷ whole 10 ∷ []) ∷
    call service.MrotRdq (whole 0 ∷ whole 2 ∷ []) ∷
    []) ∷
    task "a" [] [] ∷
    []

-- no task of priority 5 is ready on processor 2; then the caller has the priority of A and B
abbrev pub RotationAtOwnPriority : Type 0
RotationAtOwnPriority =
    printed_from 1 (one_and_two 5) rotating_own usual_bound (replicate 3 (Run 1)) ≡
    lines_of
    ("1 p1 M mrot_rdq(0,2) E_OK" ∷
    "2 p1 M chg_pri(0,10) E_OK" ∷
    "3 p1 M mrot_rdq(0,2) E_OK" ∷
    "3 p2 > B" ∷
    [])
