-- Words in which small systems and the bodies of their tasks are written down, and what they print.
use Prim.Native.String.{String}
use Rattle.std.specs.Prelude.{ℕ, pos, ◌-◌, List, [], ◌∷◌, ◌++◌, Some, None, Bool, true, false, codes, drop, map}
use Rattle.fmp_base.specs.declared.services.Service.{Service}
use Rattle.fmp_base.specs.declared.events.Event.{Event}
use Rattle.fmp_base.specs.declared.names.Name.{Name}
use Rattle.fmp_base.specs.declared.operators.UnaryOperator.TheVariants.{Negate}
use Rattle.fmp_base.specs.declared.systems.Entry.TheVariants as entry
use Rattle.fmp_base.specs.declared.systems.SharedWordConfig.{SharedWordConfig}
use Rattle.fmp_base.specs.declared.systems.SpinLockConfig.{SpinLockConfig}
use Rattle.fmp_base.specs.declared.systems.TaskConfig.{TaskConfig}
use Rattle.fmp_base.specs.declared.systems.TheConstants.{QUEUE_LIMIT}
use Rattle.fmp_base.specs.Names.{name_from}
use Rattle.fmp_base.specs.Runs.{Trace, run}
use Rattle.fmp_base.specs.Setups.{setup}
use Rattle.fmp_base.specs.Systems.{SystemTables}
use Rattle.fmp_base.specs.Texts.{whole_text, lines_text, events_text, states_text}
use Rattle.fmp_tasklang.specs.declared.trees.BodyKind.{BodyKind}
use Rattle.fmp_tasklang.specs.declared.trees.BodyKind.TheVariants as kind
use Rattle.fmp_tasklang.specs.declared.trees.Declaration.{Declaration}
use Rattle.fmp_tasklang.specs.declared.trees.Word.{Word}
use Rattle.fmp_tasklang.specs.Contexts.{TextContext}
use Rattle.fmp_tasklang.specs.Texts.{text_meaning}
use Rattle.fmp_tasklang.specs.Trees.{ExpressionTree, number, named, element, unary, StatementTree, assign}
use Rattle.fmp_tasklang.specs.Trees.{assign_element, service_call, Block, empty, next, BodyTree}

-- a name
abbrev pub called : String → Name
called letters = name_from (codes letters)

-- a task in CLASS(TCL_1) with exinf 0 and a stack of 256 bytes
abbrev pub created_task : (activated : Bool) → Name → (body priority : ℕ) → TaskConfig
created_task activated n body priority =
    record {
      name = n;
      activated = activated;
      exinf = pos 0;
      entry = entry.Body body;
      priority = priority;
      stack = 256;
      processor = 0;
      only = false;
    }

-- such a task with TA_ACT
abbrev pub active_task : String → (body priority : ℕ) → TaskConfig
active_task letters body priority = created_task true (called letters) body priority

-- such a task without TA_ACT
abbrev pub dormant_task : String → (body priority : ℕ) → TaskConfig
dormant_task letters body priority = created_task false (called letters) body priority

-- the same task in CLASS(TCL_2)
abbrev pub in_second_class : TaskConfig → TaskConfig
in_second_class t = record t { processor = 1 }

-- the same task in the class that allows its initial processor alone
abbrev pub on_one_only : TaskConfig → TaskConfig
on_one_only t = record t { only = true }

-- a shared word that is 0
abbrev pub shared_word : String → SharedWordConfig
shared_word letters = record { name = called letters; initial = pos 0 }

-- a spin lock
abbrev pub spin_lock : String → SpinLockConfig
spin_lock letters = record { name = called letters }

-- n processors, these tasks, and no other object
abbrev pub system : ℕ → List TaskConfig → SystemTables
system processors tasks =
    record {
      processors = processors;
      queue_limit = QUEUE_LIMIT;
      tasks = tasks;
      semaphores = [];
      flags = [];
      data_queues = [];
      mailboxes = [];
      messages = [];
      shared_words = [];
      spin_locks = [];
      cyclics = [];
      interrupts = [];
    }

-- the same system in an image of an older version: one activation, and one wakeup, of a task can be queued
abbrev pub in_older_image : SystemTables → SystemTables
in_older_image sys = record sys { queue_limit = 1 }

-- two processors, and on each a task of priority 10, whose bodies are the first and the second
abbrev pub one_on_each : (first second : String) → SystemTables
one_on_each first second = system 2 (active_task first 0 10 ∷ in_second_class (active_task second 1 10) ∷ [])

-- a name in a text
abbrev pub word : String → Word
word letters = record { name = called letters; at = 0 }

-- a variable or an object as an expression
abbrev pub spelled : String → ExpressionTree
spelled letters = named (word letters)

-- name[index] as an expression
abbrev pub element_at : String → ExpressionTree → ExpressionTree
element_at letters index = element (word letters) index

-- a number or a constant as an expression
abbrev pub whole : ℕ → ExpressionTree
whole n = number (pos n)

-- a number with a minus before it
abbrev pub minus : ℕ → ExpressionTree
minus n = unary Negate (whole n)

-- name = expression;
abbrev pub set_to : String → ExpressionTree → StatementTree
set_to letters e = assign (word letters) e

-- name[index] = expression;
abbrev pub set_element : String → (index value : ExpressionTree) → StatementTree
set_element letters index value = assign_element (word letters) index value

-- a service call without an out place
abbrev pub call : Service → List ExpressionTree → StatementTree
call s arguments = service_call (record { service = s; arguments = arguments; out = None; result = None })

-- a service call with a variable at its out place
abbrev pub call_into : Service → List ExpressionTree → String → StatementTree
call_into s arguments letters =
    service_call (record { service = s; arguments = arguments; out = Some (word letters); result = None })

-- the block of these statements
abbrev pub block_of : List StatementTree → Block
block_of [] = empty
block_of (s ∷ ss) = next s (block_of ss)

-- a plain variable
abbrev pub variable : String → Declaration
variable letters = record { name = word letters; length = None }

-- an array of this many places
abbrev pub array : String → (places : ℕ) → Declaration
array letters places = record { name = word letters; length = Some (record { places = pos places; at = 0 }) }

-- a body with these declarations and statements
abbrev pub body_with : BodyKind → String → List Declaration → List StatementTree → BodyTree
body_with k letters declarations statements =
    record {
      kind = k;
      at = 0;
      name = word letters;
      variables = declarations;
      statements = block_of statements;
    }

-- a body with these plain variables and statements
abbrev pub body_of_kind : BodyKind → String → List String → List StatementTree → BodyTree
body_of_kind k letters variables statements = body_with k letters (map variable variables) statements

-- the body of a task
abbrev pub task : String → List String → List StatementTree → BodyTree
task letters variables statements = body_of_kind kind.Task letters variables statements

-- the body of a handler
abbrev pub handler : String → List String → List StatementTree → BodyTree
handler letters variables statements = body_of_kind kind.Handler letters variables statements

-- the bound of a stretch where none is named
abbrev pub usual_bound : ℕ
usual_bound = 100000

-- these lines, each ended by a line feed
abbrev pub lines_of : List String → List ℕ
lines_of [] = []
lines_of (l ∷ ls) = codes l ++ 10 ∷ lines_of ls

-- the run of a system from its setup over a list of events
abbrev pub run_of : SystemTables → List BodyTree → (bound : ℕ) → List Event → Trace TextContext
run_of sys bodies bound es =
    let M = text_meaning sys bodies in run sys M bound (setup sys M).world es

-- all that a system prints over a list of events, the states at the end included
abbrev pub printed : SystemTables → List BodyTree → (bound : ℕ) → List Event → List ℕ
printed sys bodies bound es = whole_text sys (text_meaning sys bodies) bound es

-- the lines of setup
abbrev pub printed_at_setup : SystemTables → List BodyTree → List ℕ
printed_at_setup sys bodies = lines_text sys 0 (setup sys (text_meaning sys bodies)).lines

-- the lines of the events from number k on
abbrev pub printed_from : ℕ → SystemTables → List BodyTree → (bound : ℕ) → List Event → List ℕ
printed_from k sys bodies bound es = events_text sys k (drop (k - 1) (run_of sys bodies bound es).events)

-- the lines of the states at the end
abbrev pub states_after : SystemTables → List BodyTree → (bound : ℕ) → List Event → List ℕ
states_after sys bodies bound es = states_text sys (run_of sys bodies bound es).world.state
