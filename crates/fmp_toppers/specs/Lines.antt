-- What lines of the files are made of.
use Rattle.std.specs.Prelude.{ℕ, ◌+◌, List, [], ◌∷◌, ◌++◌, codes, decimal, ℤ, Bool, true, false, Option, Some, None}
use Rattle.std.specs.Prelude.{slice_get}
use Rattle.std.specs.Fmt.{signed_decimal}
use Rattle.fmp_base.specs.declared.names.Name.{Name}
use Rattle.fmp_base.specs.declared.systems.Entry.{Entry}
use Rattle.fmp_base.specs.declared.systems.Entry.TheVariants as entry
use Rattle.fmp_base.specs.declared.systems.QueueOrder.{QueueOrder}
use Rattle.fmp_base.specs.declared.systems.QueueOrder.TheVariants as order
use Rattle.fmp_tasklang.specs.Trees.{BodyTree}
use Rattle.fmp_export.specs.Words.{c_function, c_name}
use Rattle.fmp_toppers.specs.declared.target.Target.{Target}
use Rattle.fmp_toppers.specs.declared.target.Target.TheVariants as target

-- the text of each row, in order
abbrev pub lines : {T : Type 0} → (T → List ℕ) → List T → List ℕ
lines line [] = []
lines line (x ∷ xs) = line x ++ lines line xs

-- a word that ends with a number
unfoldable pub numbered : List ℕ → ℕ → List ℕ
numbered word n = word ++ decimal n

-- what stands before the number of the processor in the name of a class
abbrev pub class_front : Target → (only : Bool) → List ℕ
class_front target.Fmp1 only = codes "CLASS(TCL_"
class_front target.Fmp3 true = codes "CLASS(CLS_PRC"
class_front target.Fmp3 false = codes "CLASS(CLS_ALL_PRC"

-- and what stands after it
abbrev pub class_back : Target → (only : Bool) → List ℕ
class_back target.Fmp1 true = codes "_ONLY) { "
class_back target.Fmp1 false = codes ") { "
class_back target.Fmp3 only = codes ") { "

-- the class of the processor at a place: that one alone, or all with that one at first
unfoldable pub class_opened : Target → (only : Bool) → (place : ℕ) → List ℕ
class_opened t only place = class_front t only ++ (decimal (place + 1) ++ class_back t only)

-- a static API up to its packet
unfoldable pub api_opened : (word : List ℕ) → Name → List ℕ
api_opened word name = word ++ (codes "(" ++ (c_name name ++ codes ", { "))

-- the ends of a packet, of its static API and of its class
unfoldable pub api_closed : List ℕ
api_closed = codes " }); }\n"

unfoldable pub api_closed_by_null : List ℕ
api_closed_by_null = codes ", NULL }); }\n"

-- further fields of a packet
unfoldable pub count_field : ℕ → List ℕ
count_field n = codes ", " ++ decimal n

unfoldable pub signed_field : ℤ → List ℕ
signed_field n = codes ", " ++ signed_decimal n

unfoldable pub time_field : ℕ → List ℕ
time_field ticks = count_field ticks ++ codes " * FMP_TICK"

-- the function of the body at a place, if there is one
abbrev pub body_function : Option BodyTree → List ℕ
body_function (Some b) = c_function b.name.name
body_function None = []

-- the function of an entry
abbrev pub entry_text : (bodies : List BodyTree) → Entry → List ℕ
entry_text bodies (entry.Named name) = c_function name
entry_text bodies (entry.Body place) = body_function (slice_get bodies place)

unfoldable pub entry_field : (bodies : List BodyTree) → Entry → List ℕ
entry_field bodies e = codes ", " ++ entry_text bodies e

-- an attribute that is the first, or a further one
abbrev pub attribute : (set : Bool) → List ℕ → List ℕ
attribute true word = word
attribute false word = codes "TA_NULL"

abbrev pub further : (set : Bool) → List ℕ → List ℕ
further true word = word
further false word = []

abbrev pub is_by_priority : QueueOrder → Bool
is_by_priority order.Priority = true
is_by_priority order.Fifo = false
