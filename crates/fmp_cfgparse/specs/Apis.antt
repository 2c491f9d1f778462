-- The static APIs: what each refuses, and the object that it makes (uITRON 4.0, section 4; CRE_MSG and CRE_SHR are
-- of this system's own).
use Rattle.std.specs.Prelude.{ℕ, ◌+◌, ◌-◌, ◌%◌, ◌/◌, ℤ, List, [], ◌∷◌, ◌++◌, length, slice_index, Option, Some, None}
use Rattle.std.specs.Prelude.{Bool, true, false, ◌&&◌, ◌||◌, not, nat_eq, nat_le, if◌then◌else◌, codes}
use Rattle.std.specs.Str.{bytes_eq}
use Rattle.fmp_base.specs.declared.codes.Er.TheVariants as er
use Rattle.fmp_base.specs.declared.names.Name.{Name}
use Rattle.fmp_base.specs.declared.systems.InterruptConfig.{InterruptConfig}
use Rattle.fmp_base.specs.Names.{name_text}
use Rattle.fmp_base.specs.Systems.{SystemTables}
use Rattle.fmp_base.specs.declared.words.Api.{Api}
use Rattle.fmp_base.specs.declared.words.Api.TheVariants as api
use Rattle.fmp_cfgparse.specs.declared.places.ClassProcessors.{ClassProcessors}
use Rattle.fmp_lex.specs.declared.fault.FaultKind.{FaultKind}
use Rattle.fmp_lex.specs.declared.fault.FaultKind.TheVariants as fault
use Rattle.fmp_cfgparse.specs.Objects.{task, semaphore, flag, data_queue, mailbox, message, shared_word, spin_lock}
use Rattle.fmp_cfgparse.specs.Objects.{cyclic, interrupt}
use Rattle.fmp_cfgparse.specs.Trees.{FieldTree, ApiTree}
use Rattle.fmp_cfgparse.specs.Values.{number_at, name_at, all_known, between, held}

-- TCL_n, and TCL_n_ONLY, by the digit n
abbrev pub class_name : ℕ → List ℕ
class_name digit = codes "TCL_" ++ digit ∷ []

abbrev pub only_name : ℕ → List ℕ
only_name digit = codes "TCL_" ++ digit ∷ codes "_ONLY"

-- The class of a name, given the number of processors. The digit 1 is the code 49.
abbrev pub class_of : ℕ → List ℕ → Option ClassProcessors
class_of processors text =
    if nat_le 49 (slice_index text 4) && nat_le (slice_index text 4) (48 + processors)
    then (if bytes_eq text (class_name (slice_index text 4)) then Some
    (record { processor = slice_index text 4 - 49; only = false })
    else (if bytes_eq text (only_name (slice_index text 4)) then Some
    (record { processor = slice_index text 4 - 49; only = true }) else None))
    else None

-- what has been made so far: the tables, and the names of all objects
pub record Making : Type 0 where
  pub tables : SystemTables
  pub names : List Name

-- some object has this name
abbrev pub is_used : List Name → Name → Bool
is_used [] name = false
is_used (n ∷ ns) name = bytes_eq (name_text name) (name_text n) || is_used ns name

-- the interrupt of this number has a handler
abbrev pub is_defined : List InterruptConfig → ℕ → Bool
is_defined [] number = false
is_defined (i ∷ is) number = nat_eq i.number number || is_defined is number

-- how many objects of its kind there are
abbrev pub count_of : Api → SystemTables → ℕ
count_of api.CreTsk t = length t.tasks
count_of api.CreSem t = length t.semaphores
count_of api.CreFlg t = length t.flags
count_of api.CreDtq t = length t.data_queues
count_of api.CreMbx t = length t.mailboxes
count_of api.CreMsg t = length t.messages
count_of api.CreShr t = length t.shared_words
count_of api.CreSpn t = length t.spin_locks
count_of api.CreCyc t = length t.cyclics
count_of api.DefInh t = length t.interrupts

-- all APIs but DEF_INH give their object a name, the first field
abbrev pub gives_name : Api → Bool
gives_name api.DefInh = false
gives_name _ = true

-- The attribute, the second field, is one of the API's. CRE_MSG and CRE_SHR have none.
abbrev pub attribute_fits : Api → ℤ → Bool
attribute_fits api.CreTsk a = between 0 0 a || between 2 2 a
attribute_fits api.CreSem a = between 0 1 a
attribute_fits api.CreFlg a = between 0 7 a
attribute_fits api.CreDtq a = between 0 1 a
attribute_fits api.CreMbx a = between 0 3 a
attribute_fits api.CreMsg a = true
attribute_fits api.CreShr a = true
attribute_fits api.CreSpn a = between 0 0 a
attribute_fits api.CreCyc a = between 0 0 a || between 2 2 a
attribute_fits api.DefInh a = between 0 0 a

-- the other numbers lie in their ranges; 2^30 is 1073741824
abbrev pub parameters_fit : Api → List FieldTree → Bool
parameters_fit api.CreTsk f = between 1 16 (number_at f 4) && between 1 65536 (number_at f 5)
parameters_fit api.CreSem f = between 1 65535 (number_at f 3) && between 0 (held 65535 (number_at f 3)) (number_at f 2)
parameters_fit api.CreFlg f = between 0 65535 (number_at f 2)
parameters_fit api.CreDtq f = between 0 255 (number_at f 2)
parameters_fit api.CreMbx f = between 1 16 (number_at f 2)
parameters_fit api.CreMsg f = between 1 16 (number_at f 1)
parameters_fit api.CreShr f = true
parameters_fit api.CreSpn f = true
parameters_fit api.CreCyc f = between 1 1073741824 (number_at f 4) && between 0 1073741824 (number_at f 5)
parameters_fit api.DefInh f = between 1 32 (number_at f 0)

-- DEF_INH alone: the interrupt, the first field, has a handler already
abbrev pub is_taken : Api → List FieldTree → SystemTables → Bool
is_taken api.DefInh f t = is_defined t.interrupts (held 255 (number_at f 0))
is_taken _ f t = false

-- the code that the API answers, where it refuses
abbrev pub refusal : Api → List FieldTree → SystemTables → Option FaultKind
refusal a f t =
    if not (attribute_fits a (number_at f 1)) then Some (fault.Api er.Rsatr)
    else (if not (parameters_fit a f) then Some (fault.Api er.Par)
    else (if is_taken a f t then Some (fault.Api er.Obj) else None))

-- The fault of an API, if it has one: the 256th of its kind, a name that is used, an unknown constant, a refusal.
abbrev pub api_fault : ApiTree → Making → Option FaultKind
api_fault a g =
    if nat_le 255 (count_of a.kind g.tables) then Some fault.Limit
    else (if gives_name a.kind && is_used g.names (name_at a.fields 0) then Some fault.TwiceNamed
    else (if not (all_known a.fields) then Some fault.UnknownName else refusal a.kind a.fields g.tables))

-- the tables with the object that an API of a class makes
abbrev pub with_object : ClassProcessors → Api → List FieldTree → SystemTables → SystemTables
with_object c api.CreTsk f t = record t { tasks = t.tasks ++ task c f ∷ [] }
with_object c api.CreSem f t = record t { semaphores = t.semaphores ++ semaphore f ∷ [] }
with_object c api.CreFlg f t = record t { flags = t.flags ++ flag f ∷ [] }
with_object c api.CreDtq f t = record t { data_queues = t.data_queues ++ data_queue f ∷ [] }
with_object c api.CreMbx f t = record t { mailboxes = t.mailboxes ++ mailbox f ∷ [] }
with_object c api.CreMsg f t = record t { messages = t.messages ++ message f ∷ [] }
with_object c api.CreShr f t = record t { shared_words = t.shared_words ++ shared_word f ∷ [] }
with_object c api.CreSpn f t = record t { spin_locks = t.spin_locks ++ spin_lock f ∷ [] }
with_object c api.CreCyc f t = record t { cyclics = t.cyclics ++ cyclic c f ∷ [] }
with_object c api.DefInh f t = record t { interrupts = t.interrupts ++ interrupt c f ∷ [] }

-- the names with that of the object, if the API gives one
abbrev pub with_name : Bool → Name → List Name → List Name
with_name true name names = names ++ name ∷ []
with_name false name names = names

-- what an API of a class makes
abbrev pub made : ClassProcessors → ApiTree → Making → Making
made c a g =
    record {
      tables = with_object c a.kind a.fields g.tables;
      names = with_name (gives_name a.kind) (name_at a.fields 0)
          g.names;
    }
