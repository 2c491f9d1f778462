-- The lines of the standard log.
use Rattle.std.specs.Prelude.{ℕ, ◌+◌, List, [], ◌∷◌, ◌++◌, Option, None, Some, Bool, true, false, codes, decimal}
use Rattle.fmp_base.specs.declared.events.StateWord.{StateWord}
use Rattle.fmp_base.specs.declared.events.StateWord.TheVariants as word
use Rattle.fmp_base.specs.declared.states.Caller.{Caller}
use Rattle.fmp_base.specs.declared.states.Caller.TheVariants as caller
use Rattle.fmp_base.specs.declared.states.Handler.{Handler}
use Rattle.fmp_base.specs.Systems.{SystemTables}
use Rattle.fmp_slices.specs.Resources.{actor_object, handler_object}

-- a state as the visualizer has it
abbrev pub state_name : StateWord → List ℕ
state_name word.Dormant = codes "DORMANT"
state_name word.Ready = codes "RUNNABLE"
state_name word.Running = codes "RUNNING"
state_name word.Waiting = codes "WAITING"
state_name word.Suspended = codes "SUSPENDED"
state_name word.WaitingSuspended = codes "WAITING-SUSPENDED"

-- the time of a line, and the name of its object
abbrev pub front_text : (time : ℕ) → (object : List ℕ) → List ℕ
front_text time object = codes "[" ++ (decimal time ++ (codes "]" ++ (object ++ codes ".")))

-- at a time, an object did or became this
abbrev pub line_text : (time : ℕ) → (object what value : List ℕ) → List ℕ
line_text time object what value = front_text time object ++ (what ++ (value ++ 10 ∷ []))

-- a task comes into a state
abbrev pub word_line : SystemTables → (time task : ℕ) → StateWord → List ℕ
word_line sys time task w = line_text time (actor_object sys (caller.Task task)) (codes "state=") (state_name w)

-- a handler begins or ends, and with it its state
abbrev pub handling_event : (begins : Bool) → List ℕ
handling_event true = codes "enter()"
handling_event false = codes "leave()"

abbrev pub handling_state : (begins : Bool) → List ℕ
handling_state true = codes "RUNNING"
handling_state false = codes "DORMANT"

abbrev pub handling_lines : SystemTables → (time : ℕ) → Handler → (begins : Bool) → List ℕ
handling_lines sys time h begins =
    line_text time (handler_object sys h) (handling_event begins) []
    ++ line_text time (handler_object sys h) (codes "state=") (handling_state begins)

-- what a processor goes on with
abbrev pub context_value : SystemTables → Option Caller → List ℕ
context_value sys None = codes "None"
context_value sys (Some actor) = actor_object sys actor

abbrev pub context_line : SystemTables → (time processor : ℕ) → Option Caller → List ℕ
context_line sys time processor actor =
    line_text time (codes "CurrentContext_PRC" ++ decimal (processor + 1)) (codes "name=") (context_value sys actor)
