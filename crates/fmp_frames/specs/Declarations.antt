-- What the head of a dump declares: variables in scopes.
use Rattle.std.specs.Prelude.{ℕ, zero, suc, ◌+◌, ◌-◌, List, [], ◌∷◌, ◌++◌, Bool, true, false, map}
use Rattle.fmp_base.specs.declared.names.Name.{Name}
use Rattle.fmp_base.specs.declared.systems.CyclicConfig.{CyclicConfig}
use Rattle.fmp_base.specs.declared.systems.DataQueueConfig.{DataQueueConfig}
use Rattle.fmp_base.specs.declared.systems.FlagConfig.{FlagConfig}
use Rattle.fmp_base.specs.declared.systems.InterruptConfig.{InterruptConfig}
use Rattle.fmp_base.specs.declared.systems.MailboxConfig.{MailboxConfig}
use Rattle.fmp_base.specs.declared.systems.SemaphoreConfig.{SemaphoreConfig}
use Rattle.fmp_base.specs.declared.systems.SharedWordConfig.{SharedWordConfig}
use Rattle.fmp_base.specs.declared.systems.TaskConfig.{TaskConfig}
use Rattle.fmp_base.specs.Systems.{SystemTables}
use Rattle.fmp_frames.specs.declared.declarations.Declaration.{Declaration}
use Rattle.fmp_frames.specs.declared.declarations.Declaration.TheVariants as declares
use Rattle.fmp_frames.specs.declared.declarations.Scope.{Scope}
use Rattle.fmp_frames.specs.declared.declarations.Scope.TheVariants as scope
use Rattle.fmp_frames.specs.declared.variable.WaitedObject.TheVariants as object
use Rattle.fmp_frames.specs.declared.variable.Variable.{Variable}
use Rattle.fmp_frames.specs.declared.variable.Variable.TheVariants as show

-- declarations of these variables
abbrev pub shown : List Variable → List Declaration
shown vs = map (λ v. declares.Shown v) vs

-- a scope with these declarations in it
abbrev pub in_scope : Scope → List Declaration → List Declaration
in_scope s ds = declares.Begin s ∷ (ds ++ declares.End ∷ [])

-- a scope of this name with these variables
abbrev pub group : Name → List Variable → List Declaration
group name vs = in_scope (scope.Named name) (shown vs)

-- what is declared of each entry of a table, whose first stands at this place
abbrev pub of_each : {A : Type 0} → (ℕ → A → List Declaration) → (place : ℕ) → List A → List Declaration
of_each declared place [] = []
of_each declared place (x ∷ xs) = declared place x ++ of_each declared (place + 1) xs

-- what a processor spins for, if there are spin locks
abbrev pub spin_variable : Bool → ℕ → List Variable
spin_variable false p = []
spin_variable true p = show.Spin p ∷ []

-- the variables of a processor
abbrev pub processor_variables : (has_locks : Bool) → ℕ → List Variable
processor_variables has_locks p =
    show.Run p ∷ show.Handler p ∷ show.Lock p ∷ show.Dispatch p ∷ show.Refused p ∷ spin_variable has_locks p

abbrev pub processor_scope : (has_locks : Bool) → ℕ → List Declaration
processor_scope has_locks p = in_scope (scope.Processor p) (shown (processor_variables has_locks p))

-- n processors, from p on
abbrev pub processors_from : (has_locks : Bool) → (p n : ℕ) → List Declaration
processors_from has_locks p zero = []
processors_from has_locks p (suc n) = processor_scope has_locks p ++ processors_from has_locks (p + 1) n

abbrev pub task_scope : ℕ → TaskConfig → List Declaration
task_scope t config =
    group config.name
    (show.State t ∷ show.Running t ∷ show.Processor t ∷ show.Priority t ∷ show.WaitKind t ∷ show.WaitObject t ∷ [])

abbrev pub cyclic_scope : ℕ → CyclicConfig → List Declaration
cyclic_scope c config = group config.name (show.Cyclic c ∷ [])

-- an interrupt stands at the place below its number
abbrev pub interrupt_scope : InterruptConfig → List Declaration
interrupt_scope config = in_scope (scope.Interrupt config.number) (shown (show.Interrupt (config.number - 1) ∷ []))

-- a scope with what is declared of each entry of a table; none of an empty table
abbrev pub scope_of_any : {A : Type 0} → Scope → (ℕ → A → List Declaration) → List A → List Declaration
scope_of_any s declared [] = []
scope_of_any s declared (x ∷ xs) = in_scope s (of_each declared 0 (x ∷ xs))

abbrev pub semaphore_scope : ℕ → SemaphoreConfig → List Declaration
semaphore_scope s config = group config.name (show.Count s ∷ show.Waiting (object.Semaphore s) ∷ [])

abbrev pub flag_scope : ℕ → FlagConfig → List Declaration
flag_scope f config = group config.name (show.Pattern f ∷ show.Waiting (object.Flag f) ∷ [])

abbrev pub data_queue_scope : ℕ → DataQueueConfig → List Declaration
data_queue_scope d config = group config.name (show.DataQueue d ∷ show.Waiting (object.DataQueue d) ∷ [])

abbrev pub mailbox_scope : ℕ → MailboxConfig → List Declaration
mailbox_scope m config = group config.name (show.Mailbox m ∷ show.Waiting (object.Mailbox m) ∷ [])

abbrev pub word_scope : ℕ → SharedWordConfig → List Declaration
word_scope w config = group config.name (show.Word w ∷ [])

abbrev pub has_any : {A : Type 0} → List A → Bool
has_any [] = false
has_any (x ∷ xs) = true

-- what each object of a system is declared with
abbrev pub objects : SystemTables → List Declaration
objects sys =
    in_scope scope.Objects
    (of_each semaphore_scope 0 sys.semaphores
    ++ (of_each flag_scope 0 sys.flags
    ++ (of_each data_queue_scope 0 sys.data_queues
    ++ (of_each mailbox_scope 0 sys.mailboxes
    ++ of_each word_scope 0 sys.shared_words))))

-- what is declared of a system
abbrev pub declarations_of : SystemTables → List Declaration
declarations_of sys =
    in_scope scope.System
    (declares.Shown show.Clock
    ∷ (processors_from (has_any sys.spin_locks) 0 sys.processors
    ++ (in_scope scope.Tasks (of_each task_scope 0 sys.tasks)
    ++ (scope_of_any scope.Cyclics cyclic_scope sys.cyclics
    ++ (scope_of_any scope.Interrupts (λ place. interrupt_scope) sys.interrupts
    ++ objects sys)))))

-- the variables that are declared, in order
abbrev pub variables_in : List Declaration → List Variable
variables_in [] = []
variables_in (declares.Begin s ∷ ds) = variables_in ds
variables_in (declares.Shown v ∷ ds) = v ∷ variables_in ds
variables_in (declares.End ∷ ds) = variables_in ds

-- the variables of the dump of a system
abbrev pub variables_of : SystemTables → List Variable
variables_of sys = variables_in (declarations_of sys)
