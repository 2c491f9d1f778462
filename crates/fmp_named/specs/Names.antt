-- Objects by their names.
use Rattle.std.specs.Prelude.{ℕ, ℤ, List, codes, Option, slice_get}
use Rattle.std.specs.Option.{option_and_then, option_map}
use Rattle.fmp_base.specs.declared.catalogue.ObjectKind.{ObjectKind}
use Rattle.fmp_base.specs.declared.catalogue.ObjectKind.TheVariants as kind
use Rattle.fmp_base.specs.declared.names.Name.{Name}
use Rattle.fmp_base.specs.Outcomes.{numbered}
use Rattle.fmp_base.specs.Systems.{SystemTables}

-- the name of the object of a kind at a place of its table, if there is one
abbrev pub name_at : SystemTables → ObjectKind → ℕ → Option Name
name_at sys kind.Task i = option_map (λ c. c.name) (slice_get sys.tasks i)
name_at sys kind.Semaphore i = option_map (λ c. c.name) (slice_get sys.semaphores i)
name_at sys kind.Flag i = option_map (λ c. c.name) (slice_get sys.flags i)
name_at sys kind.DataQueue i = option_map (λ c. c.name) (slice_get sys.data_queues i)
name_at sys kind.Mailbox i = option_map (λ c. c.name) (slice_get sys.mailboxes i)
name_at sys kind.Message i = option_map (λ c. c.name) (slice_get sys.messages i)
name_at sys kind.SharedWord i = option_map (λ c. c.name) (slice_get sys.shared_words i)
name_at sys kind.SpinLock i = option_map (λ c. c.name) (slice_get sys.spin_locks i)
name_at sys kind.Cyclic i = option_map (λ c. c.name) (slice_get sys.cyclics i)

-- the name of the object of a kind that a number names, from 1; there are at most 255 of a kind
abbrev pub object_name : SystemTables → ObjectKind → ℤ → Option Name
object_name sys k n = option_and_then (name_at sys k) (numbered 255 n)

-- a kind of objects, as states and JSON call it
abbrev pub kind_word : ObjectKind → List ℕ
kind_word kind.Task = codes "task"
kind_word kind.Semaphore = codes "semaphore"
kind_word kind.Flag = codes "eventflag"
kind_word kind.DataQueue = codes "data queue"
kind_word kind.Mailbox = codes "mailbox"
kind_word kind.Message = codes "message"
kind_word kind.SharedWord = codes "shared word"
kind_word kind.SpinLock = codes "spin lock"
kind_word kind.Cyclic = codes "cyclic handler"
