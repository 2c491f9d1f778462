-- The lines of a trace, with names in place of numbers.
use Rattle.std.specs.Prelude.{ℕ, ◌+◌, ℤ, List, [], ◌∷◌, ◌++◌, Option, Some, None, Bool, true, false, if◌then◌else◌}
use Rattle.std.specs.Prelude.{codes, decimal}
use Rattle.std.specs.Fmt.{signed_decimal}
use Rattle.fmp_base.specs.declared.calls.Call.{Call}
use Rattle.fmp_base.specs.declared.calls.Reply.{Reply}
use Rattle.fmp_base.specs.declared.catalogue.ObjectKind.{ObjectKind}
use Rattle.fmp_base.specs.declared.catalogue.Parameter.{Parameter}
use Rattle.fmp_base.specs.declared.catalogue.Parameter.TheVariants as parameter
use Rattle.fmp_base.specs.declared.events.Line.{Line}
use Rattle.fmp_base.specs.declared.events.Line.TheVariants as line
use Rattle.fmp_base.specs.declared.names.Name.{Name}
use Rattle.fmp_base.specs.declared.states.Caller.{Caller}
use Rattle.fmp_base.specs.Names.{name_text}
use Rattle.fmp_base.specs.Services.{arguments_of, parameters, service_name, service_of}
use Rattle.fmp_base.specs.Services as services
use Rattle.fmp_base.specs.Systems.{SystemTables}
use Rattle.fmp_base.specs.Texts.{answer_text, caller_name, line_body, processor_text}
use Rattle.fmp_named.specs.Names.{object_name}

-- a name, or else the number
abbrev pub name_or_number : Option Name → ℤ → List ℕ
name_or_number (Some name) n = name_text name
name_or_number None n = signed_decimal n

-- a number that may name an object of this kind
abbrev pub number_of_kind : SystemTables → Option ObjectKind → ℤ → List ℕ
number_of_kind sys (Some kind) n = name_or_number (object_name sys kind n) n
number_of_kind sys None n = signed_decimal n

-- an argument at this parameter
unfoldable pub argument_text : SystemTables → Parameter → ℤ → List ℕ
argument_text sys p n = number_of_kind sys (services.object_kind p) n

abbrev pub is_out : Parameter → Bool
is_out parameter.Out = true
is_out _ = false

-- the comma between an argument and those after it, if there are any
unfoldable pub comma : List ℤ → List ℕ
comma [] = []
comma (n ∷ ns) = codes ","

-- the first of these arguments, which is at this parameter, and the comma after it
unfoldable pub first_argument : SystemTables → Parameter → List ℤ → List ℕ
first_argument sys p [] = []
first_argument sys p (n ∷ ns) = argument_text sys p n ++ comma ns

unfoldable pub behind_first : List ℤ → List ℤ
behind_first [] = []
behind_first (n ∷ ns) = ns

-- arguments, each at its parameter; an out place is no argument
abbrev pub arguments_text : SystemTables → List Parameter → List ℤ → List ℕ
arguments_text sys [] ns = []
arguments_text sys (p ∷ ps) ns =
    if is_out p then arguments_text sys ps ns
    else first_argument sys p ns ++ arguments_text sys ps (behind_first ns)

-- a call, with the names of the objects that its arguments are
abbrev pub named_call : SystemTables → Call → List ℕ
named_call sys c =
    service_name (service_of c)
    ++ (codes "(" ++ (arguments_text sys (parameters (service_of c)) (arguments_of c) ++ codes ")"))

-- a call of an actor, with its answer
abbrev pub called : SystemTables → ℕ → Caller → Call → Option Reply → List ℕ
called sys p who c reply =
    processor_text p ++ (caller_name sys who ++ (codes " " ++ (named_call sys c ++ (codes " " ++ answer_text reply))))

-- a line without its number and its end: as a trace has it, but for calls
abbrev pub named_body : SystemTables → Line → List ℕ
named_body sys (line.Call p who c reply) = called sys p who c reply
named_body sys (line.Tick clock) = line_body sys (line.Tick clock)
named_body sys (line.Int i) = line_body sys (line.Int i)
named_body sys (line.End p who) = line_body sys (line.End p who)
named_body sys (line.Fault p who fault) = line_body sys (line.Fault p who fault)
named_body sys (line.Gets p t reply) = line_body sys (line.Gets p t reply)
named_body sys (line.Starts p t) = line_body sys (line.Starts p t)
named_body sys (line.Pends p c) = line_body sys (line.Pends p c)
named_body sys (line.Begins p h) = line_body sys (line.Begins p h)
named_body sys (line.Runs p t) = line_body sys (line.Runs p t)

-- a line of event k, ended by a line feed
abbrev pub named_line : SystemTables → ℕ → Line → List ℕ
named_line sys k l = decimal k ++ (named_body sys l ++ 10 ∷ [])

abbrev pub named_lines : SystemTables → ℕ → List Line → List ℕ
named_lines sys k [] = []
named_lines sys k (l ∷ ls) = named_line sys k l ++ named_lines sys k ls
