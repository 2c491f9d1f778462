-- Senders and receivers of words.
use Rattle.std.specs.Prelude.{◌≡◌, ℕ, List, [], ◌∷◌, replicate}
use Rattle.fmp_base.specs.declared.services.Service.TheVariants as service
use Rattle.fmp_base.specs.declared.events.Event.TheVariants.{Run}
use Rattle.fmp_base.specs.declared.systems.QueueOrder.TheVariants.{Fifo}
use Rattle.fmp_base.specs.Systems.{SystemTables}
use Rattle.fmp_tasklang.specs.Trees.{BodyTree}
use Rattle.fmp_library_tests.specs.TraceBuilders.{called, active_task, dormant_task, system, spelled, whole, call}
use Rattle.fmp_library_tests.specs.TraceBuilders.{call_into}
use Rattle.fmp_library_tests.specs.TraceBuilders.{task, usual_bound, lines_of, printed_from}

-- a main task, a sender, and a data queue of this capacity
abbrev pub main_and_sender : ℕ → SystemTables
main_and_sender capacity =
    record (system 1 (active_task "M" 1 16 ∷ dormant_task "A" 0 10 ∷ [])) {
      data_queues = record { name = called "D"; order = Fifo; capacity = capacity } ∷ [];
    }

-- a sends 42; m activates it, receives, and sends by force
abbrev pub sending_directly : List BodyTree
sending_directly =
    task "a" [] (call service.SndDtq (spelled "D" ∷ whole 42 ∷ []) ∷ []) ∷
    task "m" ("v" ∷ [])
    (call service.ActTsk (spelled "A" ∷ []) ∷
    call_into service.RcvDtq (spelled "D" ∷ []) "v" ∷
    call service.FsndDtq (spelled "D" ∷ whole 1 ∷ []) ∷
    []) ∷
    []

-- a sends 1 and 2; m activates it, sends 3 by force, and receives twice
abbrev pub sending_by_force : List BodyTree
sending_by_force =
    task "a" []
    (call service.SndDtq (spelled "D" ∷ whole 1 ∷ []) ∷
    call service.SndDtq (spelled "D" ∷ whole 2 ∷ []) ∷
    []) ∷
    task "m" ("v" ∷ [])
    (call service.ActTsk (spelled "A" ∷ []) ∷
    call service.FsndDtq (spelled "D" ∷ whole 3 ∷ []) ∷
    call_into service.RcvDtq (spelled "D" ∷ []) "v" ∷
    call_into service.RcvDtq (spelled "D" ∷ []) "v" ∷
    []) ∷
    []

-- with capacity 0 a word goes from a waiting sender to the receiver, and none can be sent by force
abbrev pub WordGoesWithoutBuffer : Type 0
WordGoesWithoutBuffer =
    printed_from 2 (main_and_sender 0) sending_directly usual_bound (replicate 5 (Run 1)) ≡
    lines_of
    ("2 p1 A snd_dtq(1,42) wait" ∷
    "2 p1 > M" ∷
    "3 p1 M rcv_dtq(1) E_OK 42" ∷
    "3 p1 A gets E_OK" ∷
    "3 p1 > A" ∷
    "4 p1 A end" ∷
    "4 p1 > M" ∷
    "5 p1 M fsnd_dtq(1,1) E_ILUSE" ∷
    [])

-- a word that is sent by force drops the oldest of a full queue; a waiting sender's word follows it
abbrev pub ForcedSendDropsOldest : Type 0
ForcedSendDropsOldest =
    printed_from 2 (main_and_sender 1) sending_by_force usual_bound (replicate 7 (Run 1)) ≡
    lines_of
    ("2 p1 A snd_dtq(1,1) E_OK" ∷
    "3 p1 A snd_dtq(1,2) wait" ∷
    "3 p1 > M" ∷
    "4 p1 M fsnd_dtq(1,3) E_OK" ∷
    "5 p1 M rcv_dtq(1) E_OK 3" ∷
    "5 p1 A gets E_OK" ∷
    "5 p1 > A" ∷
    "6 p1 A end" ∷
    "6 p1 > M" ∷
    "7 p1 M rcv_dtq(1) E_OK 2" ∷
    [])
