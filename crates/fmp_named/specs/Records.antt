-- The lines of a trace and the states of the tasks as objects of JSON.
use Rattle.std.specs.Prelude.{ℕ, ◌+◌, ℤ, List, [], ◌∷◌, ◌++◌, Option, Some, None, Bool, true, false, if◌then◌else◌}
use Rattle.std.specs.Prelude.{codes}
use Rattle.std.specs.Fmt.{signed_decimal}
use Rattle.std.specs.Option.{option_and_then}
use Rattle.std.specs.Str.Lossy.{utf8_lossy}
use Rattle.json.specs.Token.{Token, key, null, number, string}
use Rattle.fmp_json.specs.Members.{list_begin, list_end, number_member, object_line, text_member}
use Rattle.fmp_base.specs.declared.calls.Call.{Call}
use Rattle.fmp_base.specs.declared.calls.Reply.{Reply}
use Rattle.fmp_base.specs.declared.catalogue.Parameter.{Parameter}
use Rattle.fmp_base.specs.declared.events.Line.{Line}
use Rattle.fmp_base.specs.declared.events.Line.TheVariants as line
use Rattle.fmp_base.specs.declared.events.TaskState.{TaskState}
use Rattle.fmp_base.specs.declared.names.Name.{Name}
use Rattle.fmp_base.specs.declared.states.Caller.{Caller}
use Rattle.fmp_base.specs.declared.states.Caller.TheVariants as caller
use Rattle.fmp_base.specs.declared.states.Handler.TheVariants as handler
use Rattle.fmp_base.specs.declared.states.TaskBlock.{TaskBlock}
use Rattle.fmp_base.specs.Codes.{code_name}
use Rattle.fmp_base.specs.Names.{name_text}
use Rattle.fmp_base.specs.Services.{arguments_of, parameters, service_name, service_of}
use Rattle.fmp_base.specs.Services as services
use Rattle.fmp_base.specs.Systems.{SystemTables}
use Rattle.fmp_base.specs.Texts.{caller_name, fault_text, task_name as name_of_task, word_text}
use Rattle.fmp_named.specs.Lines.{is_out}
use Rattle.fmp_named.specs.Names.{object_name}
use Rattle.fmp_named.specs.States.{wait_text}

abbrev pub processor_member : ℕ → List Token
processor_member p = number_member (codes "processor") (p + 1)

-- an actor, after its processor
abbrev pub actor_members : SystemTables → ℕ → Caller → List Token
actor_members sys p who = processor_member p ++ text_member (codes "actor") (utf8_lossy (caller_name sys who))

abbrev pub number_tokens : List ℤ → List Token
number_tokens [] = []
number_tokens (n ∷ ns) = number (signed_decimal n) ∷ number_tokens ns

-- a name, or null
abbrev pub name_token : Option Name → Token
name_token (Some name) = string (utf8_lossy (name_text name))
name_token None = null

-- the name of the object that an argument at this parameter is, if it is one
abbrev pub argument_name : SystemTables → Parameter → ℤ → Option Name
argument_name sys p n = option_and_then (λ kind. object_name sys kind n) (services.object_kind p)

-- the name at this parameter, and what comes after it
abbrev pub next_name : SystemTables → Parameter → List ℤ → (List ℤ → List Token) → List Token
next_name sys p [] rest = []
next_name sys p (n ∷ ns) rest = name_token (argument_name sys p n) ∷ rest ns

-- the names of arguments, each at its parameter; an out place is no argument
abbrev pub name_tokens : SystemTables → List Parameter → List ℤ → List Token
name_tokens sys [] ns = []
name_tokens sys (p ∷ ps) ns =
    if is_out p then name_tokens sys ps ns else next_name sys p ns (name_tokens sys ps)

-- the arguments of a call, and their names
abbrev pub argument_members : SystemTables → Call → List Token
argument_members sys c =
    list_begin (codes "arguments")
    ++ (number_tokens (arguments_of c)
    ++ (list_end
    ++ (list_begin (codes "names") ++ (name_tokens sys (parameters (service_of c)) (arguments_of c) ++ list_end))))

abbrev pub value_member : Option ℤ → List Token
value_member None = []
value_member (Some v) = key (codes "value") ∷ (number (signed_decimal v) ∷ [])

-- a reply, or null where the caller waits
abbrev pub reply_members : Option Reply → List Token
reply_members (Some r) = text_member (codes "reply") (code_name r.code) ++ value_member r.value
reply_members None = key (codes "reply") ∷ (null ∷ [])

abbrev pub call_members : SystemTables → Call → Option Reply → List Token
call_members sys c reply =
    text_member (codes "call") (service_name (service_of c)) ++ (argument_members sys c ++ reply_members reply)

-- the task that a processor runs, or null
abbrev pub running_members : SystemTables → ℕ → Option ℕ → List Token
running_members sys p (Some t) = actor_members sys p (caller.Task t)
running_members sys p None = processor_member p ++ (key (codes "actor") ∷ (null ∷ []))

-- what a line tells
abbrev pub kind_of : Line → List ℕ
kind_of (line.Tick clock) = codes "tick"
kind_of (line.Int i) = codes "interrupt"
kind_of (line.Call p who c reply) = codes "call"
kind_of (line.End p who) = codes "end"
kind_of (line.Fault p who fault) = codes "fault"
kind_of (line.Gets p t reply) = codes "gets"
kind_of (line.Starts p t) = codes "starts"
kind_of (line.Pends p c) = codes "pends"
kind_of (line.Begins p h) = codes "begins"
kind_of (line.Runs p t) = codes "runs"

-- who acts in it
abbrev pub who_members : SystemTables → Line → List Token
who_members sys (line.Tick clock) = number_member (codes "clock") clock
who_members sys (line.Int i) = number_member (codes "number") (i + 1)
who_members sys (line.Call p who c reply) = actor_members sys p who
who_members sys (line.End p who) = actor_members sys p who
who_members sys (line.Fault p who fault) = actor_members sys p who
who_members sys (line.Gets p t reply) = actor_members sys p (caller.Task t)
who_members sys (line.Starts p t) = actor_members sys p (caller.Task t)
who_members sys (line.Pends p c) = actor_members sys p (caller.Handler (handler.Cyclic c))
who_members sys (line.Begins p h) = actor_members sys p (caller.Handler h)
who_members sys (line.Runs p t) = running_members sys p t

-- what it tells besides
abbrev pub rest_members : SystemTables → Line → List Token
rest_members sys (line.Call p who c reply) = call_members sys c reply
rest_members sys (line.Fault p who fault) = text_member (codes "fault") (fault_text fault)
rest_members sys (line.Gets p t reply) = reply_members (Some reply)
rest_members sys _ = []

-- a line of event k
abbrev pub line_record : SystemTables → ℕ → Line → List ℕ
line_record sys k l =
    object_line
    (number_member (codes "event") k
    ++ (text_member (codes "what") (kind_of l) ++ (who_members sys l ++ rest_members sys l)))

abbrev pub line_records : SystemTables → ℕ → List Line → List ℕ
line_records sys k [] = []
line_records sys k (l ∷ ls) = line_record sys k l ++ line_records sys k ls

-- what a task of this block waits for, and until when
abbrev pub wait_of : SystemTables → TaskBlock → List ℕ
wait_of sys b = wait_text sys b.phase b.deadline

abbrev pub task_name : SystemTables → ℕ → List ℕ
task_name sys t = name_of_task sys t

-- the state of a task of this name
abbrev pub state_members : (name : List ℕ) → TaskState → List Token
state_members name x =
    text_member (codes "task") name
    ++ (text_member (codes "state") (word_text x.word)
    ++ (processor_member x.processor ++ number_member (codes "priority") x.priority))

-- the state of task t, of which x is shown and this is kept
abbrev pub state_record : SystemTables → ℕ → TaskState → TaskBlock → List ℕ
state_record sys t x b =
    object_line
    (text_member (codes "what") (codes "state")
    ++ (state_members (utf8_lossy (task_name sys t)) x
    ++ text_member (codes "waits") (utf8_lossy (wait_of sys b))))

-- the states of the tasks from t on
abbrev pub state_records : SystemTables → ℕ → List TaskState → List TaskBlock → List ℕ
state_records sys t [] bs = []
state_records sys t (x ∷ xs) [] = []
state_records sys t (x ∷ xs) (b ∷ bs) = state_record sys t x b ++ state_records sys (t + 1) xs bs
