-- Spin locks.
use Rattle.std.specs.Prelude.{◌≡◌, List, [], ◌∷◌, replicate}
use Rattle.fmp_base.specs.declared.services.Service.TheVariants as service
use Rattle.fmp_base.specs.declared.events.Event.TheVariants.{Run}
use Rattle.fmp_base.specs.declared.operators.BinaryOperator.TheVariants.{Subtract, Divide, Equal}
use Rattle.fmp_base.specs.Systems.{SystemTables}
use Rattle.fmp_tasklang.specs.Trees.{ExpressionTree, binary, BodyTree, if_then}
use Rattle.fmp_library_tests.specs.TraceBuilders.{active_task, one_on_each, shared_word, spin_lock, system, spelled}
use Rattle.fmp_library_tests.specs.TraceBuilders.{whole}
use Rattle.fmp_library_tests.specs.TraceBuilders.{minus, set_to, call, call_into, block_of, task, usual_bound, lines_of}
use Rattle.fmp_library_tests.specs.TraceBuilders.{printed_from}

-- a task on each of two processors, and a spin lock
abbrev pub two_and_lock : SystemTables
two_and_lock = record (one_on_each "A" "B") { spin_locks = spin_lock "L" ∷ [] }

-- a takes the lock and gives it up; b takes it
abbrev pub locking : List BodyTree
locking =
    task "a" [] (call service.LocSpn (spelled "L" ∷ []) ∷ call service.UnlSpn (spelled "L" ∷ []) ∷ []) ∷
    task "b" [] (call service.LocSpn (spelled "L" ∷ []) ∷ []) ∷
    []

-- a task that spins for a held spin lock does nothing until the lock is free
abbrev pub SpinningDoesNothing : Type 0
SpinningDoesNothing =
    printed_from 1 two_and_lock locking usual_bound (Run 1 ∷ Run 2 ∷ Run 2 ∷ Run 2 ∷ Run 1 ∷ Run 2 ∷ []) ≡
    lines_of
    ("1 p1 A loc_spn(1) E_OK" ∷
    "2 p1 A unl_spn(1) E_OK" ∷
    "3 p2 B loc_spn(1) E_OK" ∷
    [])

-- a task, a shared word and a spin lock
abbrev pub one_and_lock : SystemTables
one_and_lock =
    record (system 1 (active_task "T" 0 10 ∷ [])) {
      shared_words = shared_word "W" ∷ [];
      spin_locks = spin_lock "L" ∷ [];
    }

-- (-2147483647 - 1) / -1
abbrev pub too_great : ExpressionTree
too_great = binary Divide (binary Subtract (minus 2147483647) (whole 1)) (minus 1)

-- t reads and sets the word, queues its own activation and takes the lock; then a division overflows where the word
-- was 0, else it divides by 0
abbrev pub faulting : List BodyTree
faulting =
    task "t" ("v" ∷ "x" ∷ [])
    (call_into service.LdShr (spelled "W" ∷ []) "v" ∷
    call service.StShr (spelled "W" ∷ whole 1 ∷ []) ∷
    call service.ActTsk (whole 0 ∷ []) ∷
    call service.LocSpn (spelled "L" ∷ []) ∷
    if_then (binary Equal (spelled "v") (whole 0)) (block_of (set_to "x" too_great ∷ [])) ∷
    set_to "x" (binary Divide (whole 1) (whole 0)) ∷
    []) ∷
    []

-- a fault ends a task as ext_tsk does: its spin lock is free, and a queued activation starts it again
abbrev pub FaultFreesSpinLock : Type 0
FaultFreesSpinLock =
    printed_from 3 one_and_lock faulting usual_bound (replicate 10 (Run 1)) ≡
    lines_of
    ("3 p1 T act_tsk(0) E_OK" ∷
    "4 p1 T loc_spn(1) E_OK" ∷
    "5 p1 T F_OVF" ∷
    "5 p1 T starts" ∷
    "5 p1 > T" ∷
    "6 p1 T ld_shr(1) E_OK 1" ∷
    "7 p1 T st_shr(1,1) E_OK" ∷
    "8 p1 T act_tsk(0) E_OK" ∷
    "9 p1 T loc_spn(1) E_OK" ∷
    "10 p1 T F_DIV" ∷
    "10 p1 T starts" ∷
    "10 p1 > T" ∷
    [])
