-- The resources of a system.
use Rattle.std.specs.Prelude.{ℕ, zero, suc, ◌+◌, List, [], ◌∷◌, ◌++◌, Option, None, Some, codes, decimal, min}
use Rattle.std.specs.Str.Lossy.{utf8_lossy}
use Rattle.json.specs.Token.{Token, begin_object, end_object, key, string}
use Rattle.fmp_base.specs.declared.names.Name.{Name}
use Rattle.fmp_base.specs.declared.states.Caller.{Caller}
use Rattle.fmp_base.specs.declared.states.Caller.TheVariants as caller
use Rattle.fmp_base.specs.declared.states.Handler.{Handler}
use Rattle.fmp_base.specs.declared.states.Handler.TheVariants as handler
use Rattle.fmp_base.specs.declared.systems.CyclicConfig.{CyclicConfig}
use Rattle.fmp_base.specs.declared.systems.InterruptConfig.{InterruptConfig}
use Rattle.fmp_base.specs.declared.systems.TaskConfig.{TaskConfig}
use Rattle.fmp_base.specs.Names.{name_text}
use Rattle.fmp_base.specs.Systems.{SystemTables}
use Rattle.fmp_base.specs.Texts.{caller_name}
use Rattle.fmp_json.specs.Members.{list_begin, list_end, number_member, text_member}
use Rattle.fmp_slices.specs.Labels.{entry_name}

-- the name that a handler has as an object: of an interrupt its number
abbrev pub handler_object : SystemTables → Handler → List ℕ
handler_object sys (handler.Interrupt i) = codes "INT_" ++ decimal (min (i + 1) 255)
handler_object sys (handler.Cyclic c) = caller_name sys (caller.Handler (handler.Cyclic c))

-- the name that an actor has as an object
abbrev pub actor_object : SystemTables → Caller → List ℕ
actor_object sys (caller.Task t) = caller_name sys (caller.Task t)
actor_object sys (caller.Handler h) = handler_object sys h

-- a resource of a name, a type and a number begins
abbrev pub resource_begin : (name kind : List ℕ) → ℕ → List Token
resource_begin name kind number =
    key (utf8_lossy name)
    ∷ begin_object
    ∷ text_member (codes "Type") kind
    ++ (key (codes "Attributes") ∷ begin_object ∷ number_member (codes "id") number)

abbrev pub resource_end : List Token
resource_end = end_object ∷ end_object ∷ []

-- the number of the processor at a place
abbrev pub processor_member : ℕ → List Token
processor_member p = number_member (codes "prcId") (p + 1)

-- the context of the processor at a place, which is idle at first
abbrev pub context_members : ℕ → List Token
context_members p =
    resource_begin (codes "CurrentContext_PRC" ++ decimal (p + 1)) (codes "Context") (p + 1)
    ++ (processor_member p ++ (text_member (codes "name") (codes "None") ++ resource_end))

-- those of the first n processors
abbrev pub contexts_to : ℕ → List Token
contexts_to zero = []
contexts_to (suc n) = contexts_to n ++ context_members n

-- the name of a body, if it is known
abbrev pub body_member : (member : List ℕ) → Option Name → List Token
body_member member None = []
body_member member (Some name) = text_member member (utf8_lossy (name_text name))

-- the state of a task or a handler at first, and the end
abbrev pub dormant_end : List Token
dormant_end = text_member (codes "state") (codes "DORMANT") ++ resource_end

-- task n
abbrev pub task_members : (bodies : List Name) → ℕ → TaskConfig → List Token
task_members bodies n t =
    resource_begin (name_text t.name) (codes "Task") n
    ++ (processor_member t.processor
    ++ (number_member (codes "pri") t.priority
    ++ (number_member (codes "stksz") t.stack
    ++ (body_member (codes "task") (entry_name bodies t.entry) ++ dormant_end))))

-- the tasks from n on
abbrev pub tasks_members : (bodies : List Name) → ℕ → List TaskConfig → List Token
tasks_members bodies n [] = []
tasks_members bodies n (t ∷ ts) = task_members bodies n t ++ tasks_members bodies (n + 1) ts

-- cyclic handler n
abbrev pub cyclic_members : (bodies : List Name) → ℕ → CyclicConfig → List Token
cyclic_members bodies n c =
    resource_begin (name_text c.name) (codes "CyclicHandler") n
    ++ (processor_member c.processor
    ++ (number_member (codes "cyctim") c.period
    ++ (number_member (codes "cycphs") c.phase
    ++ (body_member (codes "cychdr") (entry_name bodies c.entry) ++ dormant_end))))

-- the cyclic handlers from n on
abbrev pub cyclics_members : (bodies : List Name) → ℕ → List CyclicConfig → List Token
cyclics_members bodies n [] = []
cyclics_members bodies n (c ∷ cs) = cyclic_members bodies n c ++ cyclics_members bodies (n + 1) cs

-- the handler of the interrupt of this number begins
unfoldable pub interrupt_begin : ℕ → List Token
interrupt_begin n = resource_begin (codes "INT_" ++ decimal n) (codes "InterruptHandler") n

-- the handler of an interrupt
abbrev pub interrupt_members : (bodies : List Name) → InterruptConfig → List Token
interrupt_members bodies i =
    interrupt_begin i.number
    ++ (processor_member i.processor ++ (body_member (codes "inthdr") (entry_name bodies i.entry) ++ dormant_end))

abbrev pub interrupts_members : (bodies : List Name) → List InterruptConfig → List Token
interrupts_members bodies [] = []
interrupts_members bodies (i ∷ is) = interrupt_members bodies i ++ interrupts_members bodies is

-- a list of rules, of one
abbrev pub rules_members : (name : List ℕ) → List Token
rules_members name = list_begin name ++ (string (codes "fmp") ∷ list_end)

-- how times are written, and by which rules a log is read and shown
unfoldable pub head_members : List Token
head_members =
    text_member (codes "TimeScale") (codes "us")
    ++ (number_member (codes "TimeRadix") 10
    ++ (rules_members (codes "ConvertRules")
    ++ (rules_members (codes "VisualizeRules") ++ rules_members (codes "ResourceHeaders"))))

-- the contexts, the tasks, the cyclic handlers and the handlers of interrupts
unfoldable pub all_members : SystemTables → (bodies : List Name) → List Token
all_members sys bodies =
    contexts_to sys.processors
    ++ (tasks_members bodies 1 sys.tasks
    ++ (cyclics_members bodies 1 sys.cyclics ++ interrupts_members bodies sys.interrupts))

-- a member whose value is an object begins and ends
unfoldable pub object_begin : (name : List ℕ) → List Token
object_begin name = key name ∷ begin_object ∷ []

unfoldable pub object_end : List Token
object_end = end_object ∷ []

abbrev pub resources_members : SystemTables → (bodies : List Name) → List Token
resources_members sys bodies = object_begin (codes "Resources") ++ (all_members sys bodies ++ object_end)

-- the resource file of a system
abbrev pub file_members : SystemTables → (bodies : List Name) → List Token
file_members sys bodies = head_members ++ resources_members sys bodies
