-- The grammar of conditions. In the words of a line:
--
--     condition = test { ( "and" | "or" ) test }                     at most 8 tests
--     test      = [ "not" ] fact
--     fact      = measure relation value
--               | task "is" state
--               | ( task | "nobody" ) "runs" "on" number
--     measure   = name | "priority" task
--     relation  = "==" | "!=" | "<" | "<=" | ">" | ">="
--
-- A name is that of a shared word, a semaphore, an eventflag, a data queue or a mailbox, looked for in this order.
-- `and` joins tests more tightly than `or`.
use Rattle.std.specs.Prelude.{ℕ, suc, zero, ◌-◌, List, [], ◌∷◌, Option, Some, None, Result, Ok, Err, Bool, true, false}
use Rattle.std.specs.Prelude.{bytes_eq, codes, if◌then◌else◌, length, option_map, position, replicate, ◌++◌, ℤ, pos}
use Rattle.fmp_base.specs.declared.events.StateWord.TheVariants as word
use Rattle.fmp_base.specs.Names.{name_text}
use Rattle.fmp_base.specs.Systems.{SystemTables}
use Rattle.fmp_monitors.specs.declared.condition.Condition.{Condition}
use Rattle.fmp_monitors.specs.declared.condition.ConditionTest.{ConditionTest}
use Rattle.fmp_monitors.specs.declared.condition.Measure.{Measure}
use Rattle.fmp_monitors.specs.declared.condition.Measure.TheVariants as measure
use Rattle.fmp_monitors.specs.declared.condition.Relation.{Relation}
use Rattle.fmp_monitors.specs.declared.condition.Relation.TheVariants as relation
use Rattle.fmp_monitors.specs.declared.condition.TestedFact.{TestedFact}
use Rattle.fmp_monitors.specs.declared.condition.TestedFact.TheVariants as fact
use Rattle.fmp_expect.specs.declared.fault.Expects.{Expects}
use Rattle.fmp_expect.specs.declared.fault.Expects.TheVariants as expects
use Rattle.fmp_expect.specs.declared.fault.ExpectationFlaw.{ExpectationFlaw}
use Rattle.fmp_expect.specs.Parts.{Read, and_then, begins, after_first, after_word, flaw_at, found_or, number_in}
use Rattle.fmp_expect.specs.Parts.{or_else}
use Rattle.fmp_expect.specs.Parts.{read, state_of, task_of}
use Rattle.fmp_expect.specs.Words.{signed_number}

abbrev pub word_named : SystemTables → List ℕ → Option ℕ
word_named sys w = position (λ x. bytes_eq (name_text x.name) w) sys.shared_words

abbrev pub semaphore_named : SystemTables → List ℕ → Option ℕ
semaphore_named sys w = position (λ x. bytes_eq (name_text x.name) w) sys.semaphores

abbrev pub flag_named : SystemTables → List ℕ → Option ℕ
flag_named sys w = position (λ x. bytes_eq (name_text x.name) w) sys.flags

abbrev pub queue_named : SystemTables → List ℕ → Option ℕ
queue_named sys w = position (λ x. bytes_eq (name_text x.name) w) sys.data_queues

abbrev pub mailbox_named : SystemTables → List ℕ → Option ℕ
mailbox_named sys w = position (λ x. bytes_eq (name_text x.name) w) sys.mailboxes

abbrev pub length_named : SystemTables → List ℕ → Option Measure
length_named sys w =
    or_else (option_map (λ i. measure.Words i) (queue_named sys w))
    (option_map (λ i. measure.Messages i) (mailbox_named sys w))

-- what is measured of the object of a name
abbrev pub measure_named : SystemTables → List ℕ → Option Measure
measure_named sys w =
    or_else (option_map (λ i. measure.SharedWord i) (word_named sys w))
    (or_else (option_map (λ i. measure.Count i) (semaphore_named sys w))
    (or_else (option_map (λ i. measure.Pattern i) (flag_named sys w)) (length_named sys w)))

abbrev pub relation_named : List ℕ → Option Relation
relation_named w =
    if bytes_eq w (codes "==") then Some relation.Equal
    else if bytes_eq w (codes "!=") then Some relation.Unequal
    else if bytes_eq w (codes "<") then Some relation.Less
    else if bytes_eq w (codes "<=") then Some relation.LessOrEqual
    else if bytes_eq w (codes ">") then Some relation.Greater
    else if bytes_eq w (codes ">=") then Some relation.GreaterOrEqual
    else None

abbrev pub relation_of : List (List ℕ) → Result (Read Relation) ExpectationFlaw
relation_of [] = Err (flaw_at expects.Relation [])
relation_of (w ∷ ws) = found_or expects.Relation (w ∷ ws) ws (relation_named w)

abbrev pub value_of : List (List ℕ) → Result (Read ℤ) ExpectationFlaw
value_of [] = Err (flaw_at expects.Value [])
value_of (w ∷ ws) = found_or expects.Value (w ∷ ws) ws (signed_number w)

abbrev pub object_of : SystemTables → List (List ℕ) → Result (Read Measure) ExpectationFlaw
object_of sys [] = Err (flaw_at expects.Test [])
object_of sys (w ∷ ws) = found_or expects.Test (w ∷ ws) ws (measure_named sys w)

abbrev pub priority_of : SystemTables → List (List ℕ) → Result (Read Measure) ExpectationFlaw
priority_of sys ws = and_then (task_of sys ws) (λ t. read (measure.Priority t.value) t.rest)

-- what is measured, by a name or `priority` and a task
abbrev pub measure_of : SystemTables → List (List ℕ) → Result (Read Measure) ExpectationFlaw
measure_of sys ws = if begins (codes "priority") ws then priority_of sys (after_first ws) else object_of sys ws

abbrev pub comparison_of : SystemTables → List (List ℕ) → Result (Read TestedFact) ExpectationFlaw
comparison_of sys ws =
    and_then (measure_of sys ws) (λ m.
    and_then (relation_of m.rest) (λ r.
    and_then (value_of r.rest) (λ v.
    read (fact.Compares m.value r.value v.value) v.rest)))

-- a second word `is` was seen
abbrev pub is_of : SystemTables → List (List ℕ) → Result (Read TestedFact) ExpectationFlaw
is_of sys ws =
    and_then (task_of sys ws) (λ t.
    and_then (state_of (after_first t.rest)) (λ s.
    read (fact.Is t.value s.value) s.rest))

-- `nobody`, or a task
abbrev pub who_of : SystemTables → List (List ℕ) → Result (Read (Option ℕ)) ExpectationFlaw
who_of sys ws =
    if begins (codes "nobody") ws then read None (after_first ws)
    else and_then (task_of sys ws) (λ t. read (Some t.value) t.rest)

-- a second word `runs` was seen
abbrev pub on_of : SystemTables → List (List ℕ) → Result (Read TestedFact) ExpectationFlaw
on_of sys ws =
    and_then (who_of sys ws) (λ who.
    and_then (after_word expects.On (codes "on") (after_first who.rest)) (λ rest.
    and_then (number_in expects.Processor 1 sys.processors rest) (λ p.
    read (fact.Runs (p.value - 1) who.value) p.rest)))

abbrev pub fact_of : SystemTables → List (List ℕ) → Result (Read TestedFact) ExpectationFlaw
fact_of sys ws =
    if begins (codes "is") (after_first ws) then is_of sys ws
    else if begins (codes "runs") (after_first ws) then on_of sys ws
    else comparison_of sys ws

abbrev pub test_with : (negated alternative : Bool) → Result (Read TestedFact) ExpectationFlaw
    → Result (Read ConditionTest) ExpectationFlaw
test_with negated alternative r =
    and_then r (λ f. read (record { fact = f.value; negated = negated; alternative = alternative }) f.rest)

abbrev pub test_of : SystemTables → (alternative : Bool) → List (List ℕ) → Result (Read ConditionTest) ExpectationFlaw
test_of sys alternative ws =
    if begins (codes "not") ws then test_with true alternative (fact_of sys (after_first ws))
    else test_with false alternative (fact_of sys ws)

abbrev pub in_front : ConditionTest → Result (List ConditionTest) ExpectationFlaw
    → Result (List ConditionTest) ExpectationFlaw
in_front t (Ok ts) = Ok (t ∷ ts)
in_front t (Err e) = Err e

-- the tests after one, where this says which are read of words that begin an alternative or not
abbrev pub next_tests : (Bool → List (List ℕ) → Result (List ConditionTest) ExpectationFlaw) → List (List ℕ)
    → Result (List ConditionTest) ExpectationFlaw
next_tests more [] = Ok []
next_tests more (w ∷ ws) =
    if bytes_eq w (codes "and") then more false ws
    else if bytes_eq w (codes "or") then more true ws
    else Err (flaw_at expects.AndOr (w ∷ ws))

-- at most this many tests, to the end of the line
unfoldable pub tests_of : SystemTables → (room : ℕ) → (alternative : Bool) → List (List ℕ)
    → Result (List ConditionTest) ExpectationFlaw
tests_of sys zero alternative ws = Err (flaw_at expects.FewerTests ws)
tests_of sys (suc room) alternative ws =
    and_then (test_of sys alternative ws) (λ t. in_front t.value (next_tests (tests_of sys room) t.rest))

-- what stands after the last test of a condition
abbrev pub no_test : ConditionTest
no_test =
    record {
      fact = fact.Is 0 word.Dormant;
      negated = false;
      alternative = true;
    }

-- the condition of these tests
abbrev pub condition_with : List ConditionTest → Condition
condition_with ts = record { count = length ts; tests = ts ++ replicate (8 - length ts) no_test }

unfoldable pub condition_of : SystemTables → List (List ℕ) → Result Condition ExpectationFlaw
condition_of sys ws = and_then (tests_of sys 8 true ws) (λ ts. Ok (condition_with ts))
