-- Messages that queue by priority.
use Rattle.std.specs.Prelude.{◌≡◌, List, [], ◌∷◌, replicate}
use Rattle.fmp_base.specs.declared.services.Service.TheVariants as service
use Rattle.fmp_base.specs.declared.events.Event.TheVariants.{Run}
use Rattle.fmp_base.specs.declared.systems.QueueOrder.TheVariants.{Fifo, Priority}
use Rattle.fmp_base.specs.Systems.{SystemTables}
use Rattle.fmp_tasklang.specs.Trees.{BodyTree}
use Rattle.fmp_library_tests.specs.TraceBuilders.{called, active_task, system, spelled, call, call_into, task}
use Rattle.fmp_library_tests.specs.TraceBuilders.{usual_bound}
use Rattle.fmp_library_tests.specs.TraceBuilders.{lines_of, printed_from}

-- a task, a mailbox with TA_MPRI, and messages of priorities 2 and 1
abbrev pub one_mailbox : SystemTables
one_mailbox =
    record (system 1 (active_task "M" 0 10 ∷ [])) {
      mailboxes = record { name = called "X"; order = Fifo; message_order = Priority; most = 3 } ∷ [];
      messages = record { name = called "G"; priority = 2 } ∷ record { name = called "H"; priority = 1 } ∷ [];
    }

-- sends G, H and G again, then receives
abbrev pub sending_and_receiving : List BodyTree
sending_and_receiving =
    task "m" ("g" ∷ [])
    (call service.SndMbx (spelled "X" ∷ spelled "G" ∷ []) ∷
    call service.SndMbx (spelled "X" ∷ spelled "H" ∷ []) ∷
    call service.SndMbx (spelled "X" ∷ spelled "G" ∷ []) ∷
    call_into service.RcvMbx (spelled "X" ∷ []) "g" ∷
    []) ∷
    []

-- the more urgent message is received first, and a message that is queued can't be sent again
abbrev pub UrgentMessageFirst : Type 0
UrgentMessageFirst =
    printed_from 1 one_mailbox sending_and_receiving usual_bound (replicate 4 (Run 1)) ≡
    lines_of
    ("1 p1 M snd_mbx(1,1) E_OK" ∷
    "2 p1 M snd_mbx(1,2) E_OK" ∷
    "3 p1 M snd_mbx(1,1) E_OBJ" ∷
    "4 p1 M rcv_mbx(1) E_OK 2" ∷
    [])
