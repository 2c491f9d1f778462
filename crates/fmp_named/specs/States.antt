-- The states of the tasks at the end of a run, with what those that wait are waiting for.
use Rattle.std.specs.Prelude.{ℕ, ◌+◌, List, [], ◌∷◌, ◌++◌, Option, Some, None, codes, decimal}
use Rattle.std.specs.Option.{option_map_or}
use Rattle.fmp_base.specs.declared.catalogue.ObjectKind.{ObjectKind}
use Rattle.fmp_base.specs.declared.catalogue.ObjectKind.TheVariants as kind
use Rattle.fmp_base.specs.declared.events.TaskState.{TaskState}
use Rattle.fmp_base.specs.declared.states.FlagMode.{FlagMode}
use Rattle.fmp_base.specs.declared.states.FlagMode.TheVariants as mode
use Rattle.fmp_base.specs.declared.states.Phase.{Phase}
use Rattle.fmp_base.specs.declared.states.Phase.TheVariants as phase
use Rattle.fmp_base.specs.declared.states.TaskBlock.{TaskBlock}
use Rattle.fmp_base.specs.declared.states.WaitCause.{WaitCause}
use Rattle.fmp_base.specs.declared.states.WaitCause.TheVariants as cause
use Rattle.fmp_base.specs.Names.{name_text}
use Rattle.fmp_base.specs.Systems.{SystemTables}
use Rattle.fmp_base.specs.Texts.{processor_text, task_name, word_text}
use Rattle.fmp_named.specs.Names.{kind_word, name_at}

-- an object by its kind and its name
abbrev pub object_text : SystemTables → ObjectKind → ℕ → List ℕ
object_text sys k i = kind_word k ++ (codes " " ++ option_map_or (λ n. name_text n) (name_at sys k i) [])

-- which bits of a pattern a task waits for
abbrev pub mode_text : FlagMode → List ℕ
mode_text mode.And = codes "for all bits of "
mode_text mode.Or = codes "for any bit of "

-- what a task waits for
abbrev pub cause_text : SystemTables → WaitCause → List ℕ
cause_text sys cause.Sleep = codes "for a wakeup"
cause_text sys cause.Delay = codes "for the end of a delay"
cause_text sys (cause.Semaphore s) = codes "for " ++ object_text sys kind.Semaphore s
cause_text sys (cause.Flag f pattern m) =
    mode_text m ++ (decimal pattern ++ (codes " of " ++ object_text sys kind.Flag f))
cause_text sys (cause.Sending q word) = codes "for room in " ++ object_text sys kind.DataQueue q
cause_text sys (cause.Receiving q) = codes "for a word of " ++ object_text sys kind.DataQueue q
cause_text sys (cause.Mailbox x) = codes "for a message of " ++ object_text sys kind.Mailbox x

-- the clock at which a wait ends, if it has a limit
abbrev pub until_text : Option ℕ → List ℕ
until_text None = []
until_text (Some clock) = codes ", until tick " ++ decimal clock

-- what a task in this phase waits for, and until when
abbrev pub wait_text : SystemTables → Phase → Option ℕ → List ℕ
wait_text sys (phase.Waiting c) until = cause_text sys c ++ until_text until
wait_text sys phase.Dormant until = []
wait_text sys phase.Ready until = []

-- the same after a blank
abbrev pub waiting_text : SystemTables → Phase → Option ℕ → List ℕ
waiting_text sys (phase.Waiting c) until = codes " " ++ wait_text sys (phase.Waiting c) until
waiting_text sys phase.Dormant until = []
waiting_text sys phase.Ready until = []

-- the line of task t, of which x is shown and this is kept
abbrev pub named_state : SystemTables → ℕ → TaskState → TaskBlock → List ℕ
named_state sys t x b =
    task_name sys t
    ++ (codes " "
    ++ (word_text x.word
    ++ (processor_text x.processor ++ (decimal x.priority ++ (waiting_text sys b.phase b.deadline ++ 10 ∷ [])))))

-- the lines of the tasks from t on
abbrev pub named_states : SystemTables → ℕ → List TaskState → List TaskBlock → List ℕ
named_states sys t [] bs = []
named_states sys t (x ∷ xs) [] = []
named_states sys t (x ∷ xs) (b ∷ bs) = named_state sys t x b ++ named_states sys (t + 1) xs bs
