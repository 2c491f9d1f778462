-- Small bodies, and what they do.
use Rattle.std.specs.Prelude.{◌≡◌, ℕ, ℤ, pos, negsuc, List, [], ◌∷◌, Some, None, Ok, Err, true, codes}
use Rattle.fmp_base.specs.declared.bodies.Fault.{Fault}
use Rattle.fmp_base.specs.declared.bodies.Fault.TheVariants.{Overflow, Division, Index}
use Rattle.fmp_base.specs.declared.services.Service.TheVariants as service
use Rattle.fmp_base.specs.declared.calls.Call.TheVariants as calls
use Rattle.fmp_base.specs.declared.calls.Reply.{Reply}
use Rattle.fmp_base.specs.declared.codes.Er.{Er}
use Rattle.fmp_base.specs.declared.codes.Er.TheVariants as er
use Rattle.fmp_base.specs.declared.operators.UnaryOperator.TheVariants.{Negate}
use Rattle.fmp_base.specs.declared.operators.BinaryOperator.TheVariants.{Add, Divide, Remainder, Equal, Less}
use Rattle.fmp_base.specs.declared.systems.SharedWordConfig.{SharedWordConfig}
use Rattle.fmp_base.specs.declared.systems.QueueOrder.TheVariants.{Fifo}
use Rattle.fmp_base.specs.declared.systems.TheConstants.{QUEUE_LIMIT}
use Rattle.fmp_base.specs.Names.{name_from}
use Rattle.fmp_base.specs.Operators.{Value}
use Rattle.fmp_base.specs.Systems.{SystemTables}
use Rattle.fmp_tasklang.specs.declared.trees.BodyKind.TheVariants.{Task}
use Rattle.fmp_tasklang.specs.declared.trees.Declaration.{Declaration}
use Rattle.fmp_tasklang.specs.declared.trees.Word.{Word}
use Rattle.fmp_tasklang.specs.Trees.{ExpressionTree, number, named, element, unary, binary, both, either, CallTree}
use Rattle.fmp_tasklang.specs.Trees.{StatementTree, assign, assign_element, service_call, if_then, if_else, while}
use Rattle.fmp_tasklang.specs.Trees.{break, continue, return, Block, empty, next, BodyTree}
use Rattle.fmp_tasklang.specs.Scopes.{Scope, scope_of}
use Rattle.fmp_tasklang.specs.Values.{Values, value}
use Rattle.fmp_tasklang.specs.Contexts.{TextContext, Do, Receivers, going, calling, start}
use Rattle.fmp_base.specs.Stretches.{Ending, is_over}
use Rattle.fmp_base.specs.Stretches as ends
use Rattle.fmp_tasklang.specs.Stretches.{stretch}
use Rattle.fmp_tasklang.specs.Texts.{text_start, text_stretch, text_deliver}

-- a shared word of this name
abbrev pub shared_word : List ℕ → SharedWordConfig
shared_word text = record { name = name_from text; initial = pos 0 }

-- a semaphore `i`, and two shared words, `v` and `w`
abbrev pub tables : SystemTables
tables =
    record {
      processors = 1;
      queue_limit = QUEUE_LIMIT;
      tasks = [];
      semaphores = record { name = name_from (codes "i"); order = Fifo; initial = 0; most = 1 } ∷ [];
      flags = [];
      data_queues = [];
      mailboxes = [];
      messages = [];
      shared_words = shared_word (codes "v") ∷ shared_word (codes "w") ∷ [];
      spin_locks = [];
      cyclics = [];
      interrupts = [];
    }

-- a name in a text
abbrev pub word : List ℕ → Word
word text = record { name = name_from text; at = 0 }

-- a name as an expression
abbrev pub spelled : List ℕ → ExpressionTree
spelled text = named (word text)

-- a number as an expression
abbrev pub whole : ℕ → ExpressionTree
whole n = number (pos n)

-- the block of these statements
abbrev pub block_of : List StatementTree → Block
block_of [] = empty
block_of (s ∷ ss) = next s (block_of ss)

-- var of this name;
abbrev pub plain : List ℕ → Declaration
plain text = record { name = word text; length = None }

-- var a[3];
abbrev pub three : Declaration
three = record { name = word (codes "a"); length = Some (record { places = pos 3; at = 0 }) }

-- a task with the variables `i` and `n`
abbrev pub task : List StatementTree → BodyTree
task statements =
    record {
      kind = Task;
      at = 0;
      name = word (codes "main");
      variables = plain (codes "i") ∷ plain (codes "n") ∷ [];
      statements = block_of statements;
    }

-- the scope of such a task
abbrev pub scope : Scope
scope = scope_of tables (task [])

-- the value where `exinf` is 9, `i` is 5 and `n` is 0
abbrev pub value_here : ExpressionTree → Value
value_here e = value scope ((pos 9 ∷ []) ∷ (pos 5 ∷ []) ∷ (pos 0 ∷ []) ∷ []) e

-- 1 / 0
abbrev pub division_by_zero : ExpressionTree
division_by_zero = binary Divide (whole 1) (whole 0)

-- the greatest number and 1
abbrev pub too_great : ExpressionTree
too_great = binary Add (whole 2147483647) (whole 1)

-- the least number
abbrev pub least : ExpressionTree
least = number (negsuc 2147483647)

-- -1
abbrev pub minus_one : ExpressionTree
minus_one = number (negsuc 0)

-- i = i + 1;
abbrev pub count : StatementTree
count = assign (word (codes "i")) (binary Add (spelled (codes "i")) (whole 1))

-- n = n + e;
abbrev pub add_to_n : ExpressionTree → StatementTree
add_to_n e = assign (word (codes "n")) (binary Add (spelled (codes "n")) e)

-- i == k
abbrev pub i_is : ℕ → ExpressionTree
i_is k = binary Equal (spelled (codes "i")) (whole k)

-- i < k
abbrev pub i_is_below : ℕ → ExpressionTree
i_is_below k = binary Less (spelled (codes "i")) (whole k)

-- while (i < 2) { i = i + 1; }
abbrev pub two_turns : List StatementTree
two_turns = while (i_is_below 2) (block_of (count ∷ [])) ∷ []

-- { i = i + 1; if (i == 2) { continue; } if (i == 4) { break; } n = n + i; }
abbrev pub jumping : Block
jumping =
    block_of
    (count ∷
    if_then (i_is 2) (block_of (continue ∷ [])) ∷
    if_then (i_is 4) (block_of (break ∷ [])) ∷
    add_to_n (spelled (codes "i")) ∷
    [])

-- while (1) and that block; return; i = i + 1;
abbrev pub jumps : List StatementTree
jumps = while (whole 1) jumping ∷ return ∷ count ∷ []

-- while (i < 3) { i = i + 1; while (1) { n = n + 1; break; } }
abbrev pub nested_loops : List StatementTree
nested_loops =
    let inner = while (whole 1) (block_of (add_to_n (whole 1) ∷ break ∷ [])) in
    while (i_is_below 3) (block_of (count ∷ inner ∷ [])) ∷ []

-- if (n) { return; } else { i = i + 1; } n = 1 / 0; i = i + 1;
abbrev pub division : List StatementTree
division =
    if_else (spelled (codes "n")) (block_of (return ∷ [])) (block_of (count ∷ [])) ∷
    assign (word (codes "n")) division_by_zero ∷
    count ∷
    []

-- i = ld_shr(w, &n);
abbrev pub load : CallTree
load =
    record {
      service = service.LdShr;
      arguments = spelled (codes "w") ∷ [];
      out = Some (word (codes "n"));
      result = Some (word (codes "i"));
    }

-- that call, and i = i + 1;
abbrev pub loads : List StatementTree
loads = service_call load ∷ count ∷ []

-- the locals of `task` where it began with 9
abbrev pub locals_are : (i n : ℤ) → Values
locals_are i n = (pos 9 ∷ []) ∷ (i ∷ []) ∷ (n ∷ []) ∷ []

-- the context of a task that has ended
abbrev pub ended : (i n : ℤ) → TextContext
ended i n = going (locals_are i n) []

-- the context of a task that is to do `i = i + 1;`
abbrev pub counting : (i n : ℤ) → TextContext
counting i n = going (locals_are i n) (Do count ∷ [])

-- the context after the call of `loads`, with these locals
abbrev pub called_with : (i n : ℤ) → TextContext
called_with i n =
    let receivers : Receivers = record { service = service.LdShr; out = Some 2; result = Some 1 } in
    calling (locals_are i n) (Do count ∷ []) receivers

-- the same before a reply
abbrev pub loading : TextContext
loading = called_with (pos 0) (pos 0)

-- a reply with the value 7
abbrev pub reply : Er → Reply
reply code = record { code = code; value = Some (pos 7) }

-- the stretch of a task that starts with 9, in at most t turns
abbrev pub first_stretch : ℕ → List StatementTree → Ending TextContext
first_stretch t statements = stretch scope t (start (task statements) (pos 9))

-- the bodies of a text
abbrev pub two_bodies : List BodyTree
two_bodies = task two_turns ∷ task loads ∷ []

-- a task with the variables `a[3]`, `i` and `n`
abbrev pub task_with_array : List StatementTree → BodyTree
task_with_array statements =
    record {
      kind = Task;
      at = 0;
      name = word (codes "main");
      variables = three ∷ plain (codes "i") ∷ plain (codes "n") ∷ [];
      statements = block_of statements;
    }

-- its locals where it began with 9
abbrev pub with_array : List ℤ → (i n : ℤ) → Values
with_array a i n = (pos 9 ∷ []) ∷ a ∷ (i ∷ []) ∷ (n ∷ []) ∷ []

-- a[index] = e;
abbrev pub store : ExpressionTree → ExpressionTree → StatementTree
store index e = assign_element (word (codes "a")) index e

-- a[index]
abbrev pub loaded : ExpressionTree → ExpressionTree
loaded index = element (word (codes "a")) index

-- i = 2; a[i] = 7; n = a[2] + a[0];
abbrev pub stores : List StatementTree
stores =
    assign (word (codes "i")) (whole 2) ∷
    store (spelled (codes "i")) (whole 7) ∷
    add_to_n (binary Add (loaded (whole 2)) (loaded (whole 0))) ∷
    []

-- the stretch of such a task that starts with 9
abbrev pub array_stretch : List StatementTree → Ending TextContext
array_stretch statements =
    let body = task_with_array statements in
    stretch (scope_of tables body) 0 (start body (pos 9))

-- a stretch of it that ends with this fault before anything is done
abbrev pub faults_at_once : Fault → Ending TextContext
faults_at_once fault = ends.Fault (going (with_array (pos 0 ∷ pos 0 ∷ pos 0 ∷ []) (pos 0) (pos 0)) []) fault

-- each holds by computing
pub record Examples : Type 0 where
  pub and_stops_early : value_here (both (whole 0) division_by_zero) ≡ Ok (pos 0)
  pub and_goes_on : value_here (both (whole 3) division_by_zero) ≡ Err Division
  pub or_stops_early : value_here (either (whole 3) division_by_zero) ≡ Ok (pos 1)
  pub or_goes_on : value_here (either (whole 0) (whole 3)) ≡ Ok (pos 1)
  pub least_negated : value_here (unary Negate least) ≡ Err Overflow
  pub least_divided : value_here (binary Divide least minus_one) ≡ Err Overflow
  pub least_reduced : value_here (binary Remainder least minus_one) ≡ Err Overflow
  pub reduced_by_zero : value_here (binary Remainder (whole 1) (whole 0)) ≡ Err Division
  pub left_fault_first : value_here (binary Add division_by_zero too_great) ≡ Err Division
  pub left_fault_first_too : value_here (binary Add too_great division_by_zero) ≡ Err Overflow
  pub local_before_object : value_here (spelled (codes "i")) ≡ Ok (pos 5)
  pub number_of_object : value_here (spelled (codes "w")) ≡ Ok (pos 2)
  pub one_turn_is_few : is_over (first_stretch 1 two_turns) ≡ true
  pub two_turns_are_enough : first_stretch 2 two_turns ≡ ends.End (ended (pos 2) (pos 0))
  pub continue_is_a_turn : is_over (first_stretch 2 jumps) ≡ true
  pub break_is_no_turn : first_stretch 3 jumps ≡ ends.End (ended (pos 4) (pos 4))
  pub break_ends_one_loop : first_stretch 3 nested_loops ≡ ends.End (ended (pos 3) (pos 3))
  pub fault_in_a_body : first_stretch 0 division ≡ ends.Fault (counting (pos 1) (pos 0)) Division
  pub call_of_a_service : first_stretch 0 loads ≡ ends.Call loading (calls.LdShr (pos 2))
  pub call_in_second_body :
      text_stretch tables two_bodies 1 0 (text_start two_bodies 1 (pos 9)) ≡ ends.Call loading (calls.LdShr (pos 2))
  pub reply_with_value : text_deliver two_bodies 1 loading (reply er.Ok) ≡ called_with (pos 0) (pos 7)
  pub reply_with_error : text_deliver two_bodies 1 loading (reply er.Par) ≡ called_with (negsuc 16) (pos 0)
  pub element_is_stored :
      array_stretch stores ≡
      ends.End (going (with_array (pos 0 ∷ pos 0 ∷ pos 7 ∷ []) (pos 2) (pos 7)) [])
  pub index_too_great : array_stretch (store (whole 3) (whole 1) ∷ []) ≡ faults_at_once Index
  pub negative_index : array_stretch (store minus_one (whole 1) ∷ []) ≡ faults_at_once Index
  pub value_before_index_test : array_stretch (store (whole 3) division_by_zero ∷ []) ≡ faults_at_once Division
  pub index_before_value : array_stretch (store division_by_zero too_great ∷ []) ≡ faults_at_once Division
  pub read_out_of_range : array_stretch (assign (word (codes "n")) (loaded (whole 3)) ∷ []) ≡ faults_at_once Index
