-- The trace and the final task states as text, with the names of a system.
use Rattle.std.specs.Prelude.{ℕ, ◌+◌, ℤ, List, [], ◌∷◌, ◌++◌, Option, Some, None, bytes_eq, codes, decimal, find}
use Rattle.std.specs.Prelude.{length}
use Rattle.std.specs.Fmt.{signed_decimal}
use Rattle.fmp_base.specs.declared.bodies.Fault.{Fault}
use Rattle.fmp_base.specs.declared.bodies.Fault.TheVariants.{Overflow, Division, Index}
use Rattle.fmp_base.specs.declared.calls.Call.{Call}
use Rattle.fmp_base.specs.declared.calls.Reply.{Reply}
use Rattle.fmp_base.specs.declared.events.Event.{Event}
use Rattle.fmp_base.specs.declared.events.Line.{Line}
use Rattle.fmp_base.specs.declared.events.Line.TheVariants as line
use Rattle.fmp_base.specs.declared.events.StateWord.{StateWord}
use Rattle.fmp_base.specs.declared.events.StateWord.TheVariants as word
use Rattle.fmp_base.specs.declared.events.TaskState.{TaskState}
use Rattle.fmp_base.specs.declared.states.Caller.{Caller}
use Rattle.fmp_base.specs.declared.states.Caller.TheVariants as caller
use Rattle.fmp_base.specs.declared.states.Handler.{Handler}
use Rattle.fmp_base.specs.declared.states.Handler.TheVariants as handler
use Rattle.fmp_base.specs.Codes.{code_name}
use Rattle.fmp_base.specs.Meanings.{Meaning}
use Rattle.fmp_base.specs.Names.{name_text}
use Rattle.fmp_base.specs.Runs.{Trace, run, task_state}
use Rattle.fmp_base.specs.Services.{service_of, service_name, arguments_of}
use Rattle.fmp_base.specs.Setups.{setup}
use Rattle.fmp_base.specs.States.{KernelState, places_from}
use Rattle.fmp_base.specs.Systems.{SystemTables, task_config, cyclic_config}

abbrev pub task_name : SystemTables → ℕ → List ℕ
task_name sys t = name_text (task_config sys t).name

-- a cyclic handler goes by its name, the handler of interrupt i by #i
abbrev pub handler_name : SystemTables → Handler → List ℕ
handler_name sys (handler.Interrupt i) = codes "#" ++ decimal (i + 1)
handler_name sys (handler.Cyclic c) = name_text (cyclic_config sys c).name

abbrev pub caller_name : SystemTables → Caller → List ℕ
caller_name sys (caller.Task t) = task_name sys t
caller_name sys (caller.Handler h) = handler_name sys h

abbrev pub more_numbers_text : List ℤ → List ℕ
more_numbers_text [] = []
more_numbers_text (n ∷ ns) = codes "," ++ (signed_decimal n ++ more_numbers_text ns)

-- numbers, with commas between
abbrev pub numbers_text : List ℤ → List ℕ
numbers_text [] = []
numbers_text (n ∷ ns) = signed_decimal n ++ more_numbers_text ns

abbrev pub call_text : Call → List ℕ
call_text c = service_name (service_of c) ++ (codes "(" ++ (numbers_text (arguments_of c) ++ codes ")"))

abbrev pub value_text : Option ℤ → List ℕ
value_text None = []
value_text (Some v) = codes " " ++ signed_decimal v

-- the code's name, and the value if there is one
abbrev pub reply_text : Reply → List ℕ
reply_text r = code_name r.code ++ value_text r.value

abbrev pub answer_text : Option Reply → List ℕ
answer_text None = codes "wait"
answer_text (Some r) = reply_text r

abbrev pub fault_text : Fault → List ℕ
fault_text Overflow = codes "F_OVF"
fault_text Division = codes "F_DIV"
fault_text Index = codes "F_IDX"

-- the fault of this name
abbrev pub fault_named : List ℕ → Option Fault
fault_named word = find (λ fault. bytes_eq (fault_text fault) word) (Overflow ∷ Division ∷ Index ∷ [])

-- the number of the processor at place p, with the blanks around it
abbrev pub processor_text : ℕ → List ℕ
processor_text p = codes " p" ++ (decimal (p + 1) ++ codes " ")

abbrev pub run_text : SystemTables → Option ℕ → List ℕ
run_text sys None = codes "-"
run_text sys (Some t) = task_name sys t

-- a line without its number and its end
abbrev pub line_body : SystemTables → Line → List ℕ
line_body sys (line.Tick clock) = codes " tick " ++ decimal clock
line_body sys (line.Int i) = codes " int " ++ decimal (i + 1)
line_body sys (line.Call p who c reply) =
    processor_text p ++ (caller_name sys who ++ (codes " " ++ (call_text c ++ (codes " " ++ answer_text reply))))
line_body sys (line.End p who) = processor_text p ++ (caller_name sys who ++ codes " end")
line_body sys (line.Fault p who fault) = processor_text p ++ (caller_name sys who ++ (codes " " ++ fault_text fault))
line_body sys (line.Gets p t reply) = processor_text p ++ (task_name sys t ++ (codes " gets " ++ reply_text reply))
line_body sys (line.Starts p t) = processor_text p ++ (task_name sys t ++ codes " starts")
line_body sys (line.Pends p c) = processor_text p ++ (codes "cyc " ++ name_text (cyclic_config sys c).name)
line_body sys (line.Begins p h) = processor_text p ++ (codes "begin " ++ handler_name sys h)
line_body sys (line.Runs p t) = processor_text p ++ (codes "> " ++ run_text sys t)

-- a line of event k, ended by a line feed
abbrev pub line_text : SystemTables → ℕ → Line → List ℕ
line_text sys k l = decimal k ++ (line_body sys l ++ 10 ∷ [])

abbrev pub lines_text : SystemTables → ℕ → List Line → List ℕ
lines_text sys k [] = []
lines_text sys k (l ∷ ls) = line_text sys k l ++ lines_text sys k ls

-- the lines of events that are numbered from k on
abbrev pub events_text : SystemTables → ℕ → List (List Line) → List ℕ
events_text sys k [] = []
events_text sys k (ls ∷ rest) = lines_text sys k ls ++ events_text sys (k + 1) rest

abbrev pub word_text : StateWord → List ℕ
word_text word.Running = codes "RUNNING"
word_text word.Ready = codes "READY"
word_text word.Waiting = codes "WAITING"
word_text word.Suspended = codes "SUSPENDED"
word_text word.WaitingSuspended = codes "WAITING-SUSPENDED"
word_text word.Dormant = codes "DORMANT"

-- the line of task t at the end, where x is shown of it
abbrev pub state_text : SystemTables → ℕ → TaskState → List ℕ
state_text sys t x =
    task_name sys t ++
    (codes " " ++ (word_text x.word ++ (processor_text x.processor ++ (decimal x.priority ++ 10 ∷ []))))

abbrev pub states_of : SystemTables → KernelState → List ℕ → List ℕ
states_of sys s [] = []
states_of sys s (t ∷ ts) = state_text sys t (task_state s t) ++ states_of sys s ts

-- one line for each task, in order of number
abbrev pub states_text : SystemTables → KernelState → List ℕ
states_text sys s = states_of sys s (places_from 0 (length sys.tasks))

abbrev pub trace_text : {C : Type 0} → SystemTables → List Line → Trace C → List ℕ
trace_text sys first r = lines_text sys 0 first ++ (events_text sys 1 r.events ++ states_text sys r.world.state)

-- all that a system prints over a list of events: the lines of setup, those of the events that do something, numbered
-- from 1, and the states at the end
abbrev pub whole_text : {C : Type 0} → SystemTables → Meaning C → (bound : ℕ) → List Event → List ℕ
whole_text sys M bound es =
    let d = setup sys M in trace_text sys d.lines (run sys M bound d.world es)
