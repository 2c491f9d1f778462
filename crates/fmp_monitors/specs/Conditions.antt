-- Conditions on the state of a kernel between events.
use Rattle.std.specs.Prelude.{ℕ, ℤ, pos, List, [], ◌∷◌, Option, Some, None, Bool, true, false, not, ◌&&◌, ◌||◌, get_or}
use Rattle.std.specs.Prelude.{if◌then◌else◌, int_lt, length, min, nat_eq, take}
use Rattle.fmp_base.specs.declared.events.StateWord.{StateWord}
use Rattle.fmp_base.specs.declared.states.TaskBlock.{TaskBlock}
use Rattle.fmp_base.specs.DataQueueCalls.{words_at}
use Rattle.fmp_base.specs.FlagCalls.{pattern_at}
use Rattle.fmp_base.specs.MailboxCalls.{messages_at}
use Rattle.fmp_base.specs.Runs.{state_word}
use Rattle.fmp_base.specs.States.{KernelState, processor_at, task_at}
use Rattle.fmp_monitors.specs.declared.condition.Condition.{Condition}
use Rattle.fmp_monitors.specs.declared.condition.ConditionTest.{ConditionTest}
use Rattle.fmp_monitors.specs.declared.condition.Measure.{Measure}
use Rattle.fmp_monitors.specs.declared.condition.Measure.TheVariants as measure
use Rattle.fmp_monitors.specs.declared.condition.Relation.{Relation}
use Rattle.fmp_monitors.specs.declared.condition.Relation.TheVariants as relation
use Rattle.fmp_monitors.specs.declared.condition.TestedFact.{TestedFact}
use Rattle.fmp_monitors.specs.declared.condition.TestedFact.TheVariants as fact
use Rattle.fmp_monitors.specs.Happenings.{is_same, is_state}

-- the number of a state that is measured; of what is not there, 0, or priority 1
abbrev pub measured : Measure → KernelState → ℤ
measured (measure.SharedWord i) s = get_or s.shared_words i (pos 0)
measured (measure.Count i) s = pos (get_or s.semaphores i 0)
measured (measure.Pattern i) s = pos (pattern_at s i)
measured (measure.Words i) s = pos (length (words_at s i))
measured (measure.Messages i) s = pos (length (messages_at s i))
measured (measure.Priority t) s = pos (task_at s.tasks t).priority

abbrev pub compares : Relation → ℤ → ℤ → Bool
compares relation.Less a b = int_lt a b
compares relation.LessOrEqual a b = not (int_lt b a)
compares relation.Equal a b = is_same a b
compares relation.Unequal a b = not (is_same a b)
compares relation.Greater a b = int_lt b a
compares relation.GreaterOrEqual a b = not (int_lt a b)

abbrev pub is_same_task : Option ℕ → Option ℕ → Bool
is_same_task None None = true
is_same_task (Some a) (Some b) = nat_eq a b
is_same_task None (Some b) = false
is_same_task (Some a) None = false

-- processor p runs task t
abbrev pub is_run_on : KernelState → (p t : ℕ) → Bool
is_run_on s p t = is_same_task (processor_at s p).run (Some t)

abbrev pub word_in : KernelState → ℕ → TaskBlock → StateWord
word_in s t x = state_word x.phase x.suspended (is_run_on s x.processor t)

-- the state of task t
abbrev pub word_at : KernelState → ℕ → StateWord
word_at s t = word_in s t (task_at s.tasks t)

abbrev pub is_so : TestedFact → KernelState → Bool
is_so (fact.Compares m r v) s = compares r (measured m s) v
is_so (fact.Is t w) s = is_state w (word_at s t)
is_so (fact.Runs p who) s = is_same_task (processor_at s p).run who

abbrev pub passes : ConditionTest → KernelState → Bool
passes t s = if t.negated then not (is_so t.fact s) else is_so t.fact s

-- a state passes these tests, up to the next alternative
abbrev pub passes_all : List ConditionTest → KernelState → Bool
passes_all [] s = true
passes_all (t ∷ ts) s = t.alternative || (passes t s && passes_all ts s)

-- an alternative begins in these tests of which a state passes all
abbrev pub passes_one : List ConditionTest → KernelState → Bool
passes_one [] s = false
passes_one (t ∷ ts) s = (t.alternative && (passes t s && passes_all ts s)) || passes_one ts s

abbrev pub tests_of : Condition → List ConditionTest
tests_of c = take (min c.count 8) c.tests

-- a condition is so in a state
abbrev pub holds : Condition → KernelState → Bool
holds c s = passes_one (tests_of c) s
