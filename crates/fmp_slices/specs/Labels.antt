-- What slices are called.
use Rattle.std.specs.Prelude.{ℕ, ◌+◌, List, [], ◌++◌, Option, None, Some, codes, decimal, slice_get}
use Rattle.std.specs.Option.{option_and_then, option_map, option_map_or}
use Rattle.fmp_base.specs.declared.names.Name.{Name}
use Rattle.fmp_base.specs.declared.events.StateWord.{StateWord}
use Rattle.fmp_base.specs.declared.events.StateWord.TheVariants as word
use Rattle.fmp_base.specs.declared.states.Caller.{Caller}
use Rattle.fmp_base.specs.declared.states.Caller.TheVariants as caller
use Rattle.fmp_base.specs.declared.states.Handler.{Handler}
use Rattle.fmp_base.specs.declared.states.Handler.TheVariants as handler
use Rattle.fmp_base.specs.declared.states.Phase.TheVariants as phase
use Rattle.fmp_base.specs.declared.states.WaitCause.{WaitCause}
use Rattle.fmp_base.specs.declared.systems.Entry.{Entry}
use Rattle.fmp_base.specs.declared.systems.Entry.TheVariants as entry
use Rattle.fmp_base.specs.Names.{name_text}
use Rattle.fmp_base.specs.Systems.{SystemTables, interrupt_config}
use Rattle.fmp_base.specs.Texts.{caller_name}
use Rattle.fmp_named.specs.States.{wait_text}
use Rattle.fmp_timeline.specs.declared.states.TaskShown.{TaskShown}

-- the name of a body: its own, or that among the names of the bodies, in order of number
abbrev pub entry_name : (bodies : List Name) → Entry → Option Name
entry_name bodies (entry.Named name) = Some name
entry_name bodies (entry.Body b) = slice_get bodies b

abbrev pub waiting_for : SystemTables → Option WaitCause → (until : Option ℕ) → List ℕ
waiting_for sys None until = []
waiting_for sys (Some cause) until = wait_text sys (phase.Waiting cause) until

-- what a task waits for, and until when
abbrev pub cause_text : SystemTables → TaskShown → List ℕ
cause_text sys shown = waiting_for sys shown.wait shown.deadline

-- a task waits, for this
abbrev pub waiting_text : SystemTables → TaskShown → List ℕ
waiting_text sys shown = codes "waiting " ++ cause_text sys shown

-- the entry of a handler
abbrev pub handler_entry : SystemTables → Handler → Option Entry
handler_entry sys (handler.Cyclic c) = option_map (λ config. config.entry) (slice_get sys.cyclics c)
handler_entry sys (handler.Interrupt i) = option_map (λ config. config.entry) (interrupt_config sys i)

-- the name of the body of a handler, if it is known
abbrev pub body_name : SystemTables → (bodies : List Name) → Handler → Option Name
body_name sys bodies h = option_and_then (λ e. entry_name bodies e) (handler_entry sys h)

-- what a handler is called where the name of its body is not known
abbrev pub own_name : SystemTables → Handler → List ℕ
own_name sys (handler.Cyclic c) = caller_name sys (caller.Handler (handler.Cyclic c))
own_name sys (handler.Interrupt i) = codes "interrupt " ++ decimal (i + 1)

-- what a handler is called
abbrev pub body_text : SystemTables → (bodies : List Name) → Handler → List ℕ
body_text sys bodies h = option_map_or (λ n. name_text n) (body_name sys bodies h) (own_name sys h)

-- what a task or a handler is called
abbrev pub actor_text : SystemTables → (bodies : List Name) → Caller → List ℕ
actor_text sys bodies (caller.Task t) = caller_name sys (caller.Task t)
actor_text sys bodies (caller.Handler h) = body_text sys bodies h

-- a running task runs, or a handler has interrupted it
abbrev pub running_text : SystemTables → (bodies : List Name) → Option Handler → List ℕ
running_text sys bodies None = codes "running"
running_text sys bodies (Some h) = codes "interrupted by " ++ body_text sys bodies h

-- the state of which this is shown, by its word
abbrev pub state_text : SystemTables → (bodies : List Name) → TaskShown → StateWord → List ℕ
state_text sys bodies shown word.Dormant = codes "dormant"
state_text sys bodies shown word.Ready = codes "ready"
state_text sys bodies shown word.Running = running_text sys bodies shown.under
state_text sys bodies shown word.Waiting = waiting_text sys shown
state_text sys bodies shown word.Suspended = codes "suspended"
state_text sys bodies shown word.WaitingSuspended = codes "suspended, " ++ waiting_text sys shown
