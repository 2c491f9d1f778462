-- The text of a dump.
use Rattle.std.specs.Prelude.{ℕ, zero, suc, ◌+◌, ◌^◌, ◌/◌, ◌%◌, List, [], ◌∷◌, ◌++◌, if◌then◌else◌, nat_lt, nat_eq}
use Rattle.std.specs.Prelude.{codes, decimal}
use Rattle.fmp_base.specs.Names.{name_text}
use Rattle.fmp_base.specs.Systems.{SystemTables}
use Rattle.fmp_frames.specs.declared.declarations.Declaration.{Declaration}
use Rattle.fmp_frames.specs.declared.declarations.Declaration.TheVariants as declares
use Rattle.fmp_frames.specs.declared.declarations.Scope.{Scope}
use Rattle.fmp_frames.specs.declared.declarations.Scope.TheVariants as scope
use Rattle.fmp_frames.specs.declared.head.TheConstants.{COMMENT}
use Rattle.fmp_frames.specs.declared.variable.Variable.{Variable}
use Rattle.fmp_frames.specs.declared.variable.Variable.TheVariants as show
use Rattle.fmp_frames.specs.Declarations.{declarations_of}

-- a digit of an identifier: the lowest of a number, in base 94, from `!` on
abbrev pub digit : ℕ → ℕ
digit n = 33 + n % 94

-- the digits of a number, the lowest first: one, and at most this many more
unfoldable pub digits : (more n : ℕ) → List ℕ
digits zero n = digit n ∷ []
digits (suc more) n = digit n ∷ (if nat_lt n 94 then [] else digits more (n / 94))

-- the identifier of the variable at a place
abbrev pub identifier : ℕ → List ℕ
identifier place = digits 3 place

-- the lowest bits of a number, the highest of them first
unfoldable pub bits : (width n : ℕ) → List ℕ
bits zero n = []
bits (suc width) n = (48 + n / 2 ^ width % 2) ∷ bits width n

-- how many bits the values of a variable have
abbrev pub width : Variable → ℕ
width show.Clock = 32
width (show.Run p) = 8
width (show.Handler p) = 9
width (show.Lock p) = 9
width (show.Spin p) = 8
width (show.Dispatch p) = 1
width (show.Refused p) = 2
width (show.State t) = 3
width (show.Running t) = 1
width (show.Processor t) = 4
width (show.Priority t) = 5
width (show.WaitKind t) = 3
width (show.WaitObject t) = 8
width (show.Cyclic c) = 2
width (show.Interrupt i) = 2
width (show.Count s) = 16
width (show.Pattern f) = 16
width (show.DataQueue d) = 8
width (show.Mailbox m) = 8
width (show.Word w) = 32
width (show.Waiting x) = 8

-- the word for its kind
abbrev pub kind : Variable → List ℕ
kind (show.Word w) = codes "integer"
kind v = codes "wire"

-- its name in its scope
abbrev pub variable_name : Variable → List ℕ
variable_name show.Clock = codes "clock"
variable_name (show.Run p) = codes "run"
variable_name (show.Handler p) = codes "handler"
variable_name (show.Lock p) = codes "lock"
variable_name (show.Spin p) = codes "spins"
variable_name (show.Dispatch p) = codes "dispatch"
variable_name (show.Refused p) = codes "refused"
variable_name (show.State t) = codes "state"
variable_name (show.Running t) = codes "running"
variable_name (show.Processor t) = codes "processor"
variable_name (show.Priority t) = codes "priority"
variable_name (show.WaitKind t) = codes "wait_kind"
variable_name (show.WaitObject t) = codes "wait_object"
variable_name (show.Cyclic c) = codes "handling"
variable_name (show.Interrupt i) = codes "handling"
variable_name (show.Count s) = codes "count"
variable_name (show.Pattern f) = codes "pattern"
variable_name (show.DataQueue d) = codes "words"
variable_name (show.Mailbox m) = codes "messages"
variable_name (show.Word w) = codes "value"
variable_name (show.Waiting x) = codes "waiting"

abbrev pub scope_name : Scope → List ℕ
scope_name scope.System = codes "fmp"
scope_name (scope.Processor p) = codes "p" ++ decimal (p + 1)
scope_name scope.Tasks = codes "tasks"
scope_name scope.Cyclics = codes "cyclic"
scope_name scope.Interrupts = codes "interrupt"
scope_name (scope.Interrupt number) = codes "i" ++ decimal number
scope_name scope.Objects = codes "objects"
scope_name (scope.Named name) = name_text name

abbrev pub opening_text : Variable → List ℕ
opening_text v = codes "$var " ++ (kind v ++ (codes " " ++ (decimal (width v) ++ codes " ")))

-- the declaration of the variable at a place
abbrev pub variable_text : (place : ℕ) → Variable → List ℕ
variable_text place v =
    opening_text v ++ (identifier place ++ (codes " " ++ (variable_name v ++ codes " $end\n")))

-- a declaration, where this many variables were declared before
abbrev pub declaration_text : (place : ℕ) → Declaration → List ℕ
declaration_text place (declares.Begin s) = codes "$scope module " ++ (scope_name s ++ codes " $end\n")
declaration_text place (declares.Shown v) = variable_text place v
declaration_text place declares.End = codes "$upscope $end\n"

-- how many variables a declaration declares
abbrev pub variable_count : Declaration → ℕ
variable_count (declares.Begin s) = 0
variable_count (declares.Shown v) = 1
variable_count declares.End = 0

abbrev pub declarations_text : (place : ℕ) → List Declaration → List ℕ
declarations_text place [] = []
declarations_text place (d ∷ ds) = declaration_text place d ++ declarations_text (place + variable_count d) ds

-- the head with these declarations
abbrev pub head_of : List Declaration → List ℕ
head_of ds =
    COMMENT.now
    ++ (codes "$timescale 1 ns $end\n" ++ (declarations_text 0 ds ++ codes "$enddefinitions $end\n"))

-- the head of the dump of a system
abbrev pub head_text : SystemTables → List ℕ
head_text sys = head_of (declarations_of sys)

-- a value in binary; the identifier of a variable stands after it
abbrev pub binary_text : (width value : ℕ) → List ℕ
binary_text width value =
    if nat_eq width 1 then bits 1 value else codes "b" ++ (bits width value ++ codes " ")

-- the value of the variable at a place
abbrev pub value_text : (place : ℕ) → Variable → ℕ → List ℕ
value_text place v value = binary_text (width v) value ++ (identifier place ++ codes "\n")

-- the values of all variables, whose first stands at this place
unfoldable pub values_text : (place : ℕ) → List Variable → List ℕ → List ℕ
values_text place (v ∷ vs) (x ∷ xs) = value_text place v x ++ values_text (place + 1) vs xs
values_text place vs xs = []

-- a value, if it is not as it was before
abbrev pub change_text : (place : ℕ) → Variable → (before now : ℕ) → List ℕ
change_text place v before now = if nat_eq before now then [] else value_text place v now

-- the values that have changed
unfoldable pub changes_text : (place : ℕ) → List Variable → (before now : List ℕ) → List ℕ
changes_text place (v ∷ vs) (x ∷ xs) (y ∷ ys) =
    change_text place v x y ++ changes_text (place + 1) vs xs ys
changes_text place vs xs ys = []

abbrev pub time_text : ℕ → List ℕ
time_text event = codes "#" ++ (decimal event ++ codes "\n")

-- the values after setup
abbrev pub first_text : List Variable → List ℕ → List ℕ
first_text vs xs = codes "#0\n$dumpvars\n" ++ (values_text 0 vs xs ++ codes "$end\n")

-- the event of this number, and what it changed
abbrev pub event_text : (event : ℕ) → List Variable → (before now : List ℕ) → List ℕ
event_text event vs before now = time_text event ++ changes_text 0 vs before now
