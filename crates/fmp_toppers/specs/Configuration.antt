-- The static APIs of a configuration, a line for each object.
use Rattle.std.specs.Prelude.{ℕ, List, ◌++◌, codes, true, false}
use Rattle.fmp_base.specs.declared.systems.TaskConfig.{TaskConfig}
use Rattle.fmp_base.specs.declared.systems.SemaphoreConfig.{SemaphoreConfig}
use Rattle.fmp_base.specs.declared.systems.FlagConfig.{FlagConfig}
use Rattle.fmp_base.specs.declared.systems.DataQueueConfig.{DataQueueConfig}
use Rattle.fmp_base.specs.declared.systems.MailboxConfig.{MailboxConfig}
use Rattle.fmp_base.specs.declared.systems.SpinLockConfig.{SpinLockConfig}
use Rattle.fmp_base.specs.declared.systems.CyclicConfig.{CyclicConfig}
use Rattle.fmp_base.specs.declared.systems.InterruptConfig.{InterruptConfig}
use Rattle.fmp_base.specs.Systems.{SystemTables}
use Rattle.fmp_tasklang.specs.Trees.{BodyTree}
use Rattle.fmp_toppers.specs.declared.heads.TheConstants.{CONFIGURATION_HEAD}
use Rattle.fmp_toppers.specs.declared.target.Target.{Target}
use Rattle.fmp_toppers.specs.declared.target.Target.TheVariants as target
use Rattle.fmp_toppers.specs.Lines.{api_closed, api_closed_by_null, api_opened, attribute, class_opened, count_field}
use Rattle.fmp_toppers.specs.Lines.{entry_field, further, is_by_priority, lines, numbered, signed_field, time_field}

unfoldable pub task_packet : (bodies : List BodyTree) → TaskConfig → List ℕ
task_packet bodies t =
    attribute t.activated (codes "TA_ACT")
    ++ (signed_field t.exinf
    ++ (entry_field bodies t.entry
    ++ (count_field t.priority ++ (count_field t.stack ++ codes " + FMP_STACK"))))

unfoldable pub task_line : Target → (bodies : List BodyTree) → TaskConfig → List ℕ
task_line k bodies t =
    class_opened k t.only t.processor
    ++ (api_opened (codes "CRE_TSK") t.name ++ (task_packet bodies t ++ api_closed_by_null))

-- an object of all processors stands in the class of the first
unfoldable pub semaphore_line : Target → (bodies : List BodyTree) → SemaphoreConfig → List ℕ
semaphore_line k bodies s =
    class_opened k false 0
    ++ (api_opened (codes "CRE_SEM") s.name
    ++ (attribute (is_by_priority s.order) (codes "TA_TPRI")
    ++ (count_field s.initial ++ (count_field s.most ++ api_closed))))

unfoldable pub flag_attribute : FlagConfig → List ℕ
flag_attribute f =
    attribute (is_by_priority f.order) (codes "TA_TPRI")
    ++ (further f.multiple (codes " | TA_WMUL") ++ further f.clears (codes " | TA_CLR"))

unfoldable pub flag_line : Target → (bodies : List BodyTree) → FlagConfig → List ℕ
flag_line k bodies f =
    class_opened k false 0
    ++ (api_opened (codes "CRE_FLG") f.name ++ (flag_attribute f ++ (count_field f.initial ++ api_closed)))

unfoldable pub data_queue_line : Target → (bodies : List BodyTree) → DataQueueConfig → List ℕ
data_queue_line k bodies q =
    class_opened k false 0
    ++ (api_opened (codes "CRE_DTQ") q.name
    ++ (attribute (is_by_priority q.order) (codes "TA_TPRI") ++ (count_field q.capacity ++ api_closed_by_null)))

unfoldable pub mailbox_attribute : MailboxConfig → List ℕ
mailbox_attribute m =
    attribute (is_by_priority m.order) (codes "TA_TPRI")
    ++ further (is_by_priority m.message_order) (codes " | TA_MPRI")

unfoldable pub mailbox_line : Target → (bodies : List BodyTree) → MailboxConfig → List ℕ
mailbox_line k bodies m =
    class_opened k false 0
    ++ (api_opened (codes "CRE_MBX") m.name
    ++ (mailbox_attribute m ++ (count_field m.most ++ api_closed_by_null)))

unfoldable pub spin_lock_line : Target → (bodies : List BodyTree) → SpinLockConfig → List ℕ
spin_lock_line k bodies s =
    class_opened k false 0 ++ (api_opened (codes "CRE_SPN") s.name ++ (codes "TA_NULL" ++ api_closed))

-- the extended information of a cyclic handler, and its function
unfoldable pub plain_handler : (bodies : List BodyTree) → CyclicConfig → List ℕ
plain_handler bodies c = signed_field c.exinf ++ entry_field bodies c.entry

unfoldable pub notified_handler : (bodies : List BodyTree) → CyclicConfig → List ℕ
notified_handler bodies c = codes ", { TNFY_HANDLER" ++ (plain_handler bodies c ++ codes " }")

abbrev pub handler_fields : Target → (bodies : List BodyTree) → CyclicConfig → List ℕ
handler_fields target.Fmp1 bodies c = plain_handler bodies c
handler_fields target.Fmp3 bodies c = notified_handler bodies c

unfoldable pub cyclic_packet : Target → (bodies : List BodyTree) → CyclicConfig → List ℕ
cyclic_packet k bodies c =
    attribute c.started (codes "TA_STA")
    ++ (handler_fields k bodies c ++ (time_field c.period ++ time_field c.phase))

unfoldable pub cyclic_line : Target → (bodies : List BodyTree) → CyclicConfig → List ℕ
cyclic_line k bodies c =
    class_opened k true c.processor ++ (api_opened (codes "CRE_CYC") c.name ++ (cyclic_packet k bodies c ++ api_closed))

unfoldable pub interrupt_apis : (number : ℕ) → List ℕ
interrupt_apis n =
    numbered (codes "CFG_INT(FMP_INTNO_") n
    ++ (numbered (codes ", { TA_ENAINT, FMP_INTPRI_") n
    ++ (numbered (codes " }); DEF_INH(FMP_INHNO_") n
    ++ (numbered (codes ", { TA_NULL, fmp_interrupt_") n ++ api_closed)))

unfoldable pub interrupt_line : Target → (bodies : List BodyTree) → InterruptConfig → List ℕ
interrupt_line k bodies i = class_opened k true i.processor ++ interrupt_apis i.number

-- the objects that tasks call
unfoldable pub object_lines : Target → (bodies : List BodyTree) → SystemTables → List ℕ
object_lines k bodies s =
    lines (semaphore_line k bodies) s.semaphores
    ++ (lines (flag_line k bodies) s.flags
    ++ (lines (data_queue_line k bodies) s.data_queues
    ++ (lines (mailbox_line k bodies) s.mailboxes ++ lines (spin_lock_line k bodies) s.spin_locks)))

-- the configuration
unfoldable pub configuration_file : Target → SystemTables → List BodyTree → List ℕ
configuration_file k s bodies =
    CONFIGURATION_HEAD.now
    ++ (lines (task_line k bodies) s.tasks
    ++ (object_lines k bodies s
    ++ (lines (cyclic_line k bodies) s.cyclics ++ lines (interrupt_line k bodies) s.interrupts)))
