-- Sentences, as a claim writes them.
use Rattle.std.specs.Prelude.{ℕ, ℤ, List, [], ◌++◌, Bool, true, false, Option, Some, None}
use Rattle.std.specs.Prelude.{is_some, length, not, ◌&&◌, ◌+◌, codes, decimal, drop, nat_lt}
use Rattle.std.specs.Prelude.{if◌then◌else◌}
use Rattle.std.specs.Fmt.{signed_decimal}
use Rattle.std.specs.List.{flat_map}
use Rattle.fmp_base.specs.Codes.{code_name}
use Rattle.fmp_base.specs.Systems.{SystemTables}
use Rattle.fmp_base.specs.Texts.{fault_text, task_name, word_text}
use Rattle.fmp_expect.specs.Written.{actor_text, begins_alternative, handler_name, interrupt_by, measure_name}
use Rattle.fmp_expect.specs.Written.{named_text}
use Rattle.fmp_monitors.specs.declared.condition.Condition.{Condition}
use Rattle.fmp_monitors.specs.declared.condition.ConditionTest.{ConditionTest}
use Rattle.fmp_monitors.specs.declared.condition.Measure.{Measure}
use Rattle.fmp_monitors.specs.declared.condition.Measure.TheVariants as measure
use Rattle.fmp_monitors.specs.declared.condition.Relation.{Relation}
use Rattle.fmp_monitors.specs.declared.condition.Relation.TheVariants as relation
use Rattle.fmp_monitors.specs.declared.condition.TestedFact.{TestedFact}
use Rattle.fmp_monitors.specs.declared.condition.TestedFact.TheVariants as fact
use Rattle.fmp_monitors.specs.declared.happening.ExpectedActor.{ExpectedActor}
use Rattle.fmp_monitors.specs.declared.happening.ExpectedDeed.{ExpectedDeed}
use Rattle.fmp_monitors.specs.declared.happening.ExpectedDeed.TheVariants as deed
use Rattle.fmp_monitors.specs.declared.happening.ExpectedResponse.{ExpectedResponse}
use Rattle.fmp_monitors.specs.declared.happening.ExpectedResponse.TheVariants as response
use Rattle.fmp_monitors.specs.declared.happening.ExpectedTrigger.{ExpectedTrigger}
use Rattle.fmp_monitors.specs.declared.happening.ExpectedTrigger.TheVariants as trigger
use Rattle.fmp_monitors.specs.declared.happening.Happening.{Happening}
use Rattle.fmp_monitors.specs.declared.sentence.Sentence.{Sentence}
use Rattle.fmp_monitors.specs.declared.sentence.Sentence.TheVariants as sentence
use Rattle.fmp_monitors.specs.Conditions.{tests_of}
use Rattle.fmp_schedules.specs.declared.monitor.Monitor.{Monitor}
use Rattle.fmp_schedules.specs.declared.monitor.MonitorSubject.{MonitorSubject}
use Rattle.fmp_schedules.specs.declared.monitor.MonitorSubject.TheVariants as subject

unfoldable pub deed_text : ExpectedDeed → List ℕ
deed_text (deed.Answer code) = code_name code
deed_text (deed.Put value) = codes "put(" ++ (signed_decimal value ++ codes ")")
deed_text (deed.Stop fault) = fault_text fault

unfoldable pub by_text : SystemTables → Option ExpectedActor → List ℕ
by_text sys None = []
by_text sys (Some who) = codes " by " ++ actor_text sys who

unfoldable pub happening_text : SystemTables → Happening → List ℕ
happening_text sys h = deed_text h.deed ++ by_text sys h.by

unfoldable pub response_text : SystemTables → ExpectedResponse → List ℕ
response_text sys (response.Runs who) = actor_text sys who ++ codes " runs"
response_text sys (response.Happens h) = happening_text sys h

unfoldable pub trigger_text : SystemTables → ExpectedTrigger → List ℕ
trigger_text sys (trigger.Interrupt i) = codes "int " ++ interrupt_by sys (i + 1) (handler_name sys (i + 1))
trigger_text sys (trigger.Happens h) = happening_text sys h

unfoldable pub until_text : SystemTables → Option Happening → List ℕ
until_text sys None = []
until_text sys (Some h) = codes " until " ++ happening_text sys h

-- the value of a happening that is just that it is put
abbrev pub put_of : ExpectedDeed → Option ExpectedActor → Option ℤ
put_of (deed.Put value) None = Some value
put_of (deed.Put value) (Some who) = None
put_of (deed.Answer code) by = None
put_of (deed.Stop fault) by = None

unfoldable pub alone_text : (enters leaves : ℤ) → List ℕ
alone_text enters leaves =
    codes "alone " ++ (signed_decimal enters ++ (codes "," ++ (signed_decimal leaves ++ codes ", ")))

unfoldable pub between_text : SystemTables → (enters leaves : Happening) → List ℕ
between_text sys enters leaves =
    codes "between "
    ++ (happening_text sys enters ++ (codes " and " ++ (happening_text sys leaves ++ codes " one at a time, ")))

-- of two values as the option for it has them
abbrev pub section_text : SystemTables → (enters leaves : Happening) → Option ℤ → Option ℤ → List ℕ
section_text sys enters leaves (Some a) (Some b) = alone_text a b
section_text sys enters leaves (Some a) None = between_text sys enters leaves
section_text sys enters leaves None b = between_text sys enters leaves

abbrev pub measure_word : Measure → List ℕ
measure_word (measure.Priority t) = codes "priority "
measure_word _ = []

abbrev pub relation_text : Relation → List ℕ
relation_text relation.Less = codes " < "
relation_text relation.LessOrEqual = codes " <= "
relation_text relation.Equal = codes " == "
relation_text relation.Unequal = codes " != "
relation_text relation.Greater = codes " > "
relation_text relation.GreaterOrEqual = codes " >= "

abbrev pub runner_text : SystemTables → Option ℕ → List ℕ
runner_text sys None = codes "nobody"
runner_text sys (Some t) = task_name sys t

unfoldable pub fact_text : SystemTables → TestedFact → List ℕ
fact_text sys (fact.Compares m r v) =
    measure_word m ++ (named_text (measure_name sys m) ++ (relation_text r ++ signed_decimal v))
fact_text sys (fact.Is t w) = task_name sys t ++ (codes " is " ++ word_text w)
fact_text sys (fact.Runs p who) = runner_text sys who ++ (codes " runs on " ++ decimal (p + 1))

abbrev pub joint_text : (alternative : Bool) → List ℕ
joint_text true = codes " or "
joint_text false = codes " and "

-- a test after others
unfoldable pub test_text : SystemTables → ConditionTest → List ℕ
test_text sys t =
    joint_text t.alternative
    ++ ((if t.negated then codes "not " else []) ++ fact_text sys t.fact)

abbrev pub tests_text : SystemTables → Condition → List ℕ
tests_text sys c = flat_map (λ t. test_text sys t) (tests_of c)

-- tests without the ` or ` of the first
unfoldable pub without_or : List ℕ → List ℕ
without_or text = if nat_lt 4 (length text) then drop 4 text else []

unfoldable pub never_text : SystemTables → Happening → List ℕ
never_text sys h = codes "never " ++ (happening_text sys h ++ codes ", ")

unfoldable pub before_text : SystemTables → (first second : Happening) → List ℕ
before_text sys a b = happening_text sys a ++ (codes " before " ++ (happening_text sys b ++ codes ", "))

unfoldable pub never_after_text : SystemTables → (happening opening : Happening) → (closing : Option Happening) → List ℕ
never_after_text sys h a b =
    codes "never "
    ++ (happening_text sys h ++ (codes " after " ++ (happening_text sys a ++ (until_text sys b ++ codes ", "))))

unfoldable pub within_text : SystemTables → ExpectedResponse → (ticks : ℕ) → ExpectedTrigger → List ℕ
within_text sys r n t =
    response_text sys r
    ++ (codes " within " ++ (decimal n ++ (codes " ticks of " ++ (trigger_text sys t ++ codes ", "))))

unfoldable pub always_text : SystemTables → Condition → List ℕ
always_text sys c = codes "always " ++ (without_or (tests_text sys c) ++ codes ", ")

-- a sentence, and a comma after it; of a task that may rest it is said elsewhere, and the end is not asked for
abbrev pub sentence_text : SystemTables → Sentence → List ℕ
sentence_text sys (sentence.Never h) = never_text sys h
sentence_text sys (sentence.Before a b) = before_text sys a b
sentence_text sys (sentence.NeverAfter h a b) = never_after_text sys h a b
sentence_text sys (sentence.Within r n t) = within_text sys r n t
sentence_text sys (sentence.OneAtATime a b) = section_text sys a b (put_of a.deed a.by) (put_of b.deed b.by)
sentence_text sys (sentence.Always c) = always_text sys c
sentence_text sys (sentence.Rests t) = []
sentence_text sys (sentence.End w t) = []

-- a sentence is printed in its words: not in an option, and not elsewhere
abbrev pub is_worded : Sentence → Bool
is_worded (sentence.OneAtATime a b) = not (is_some (put_of a.deed a.by) && is_some (put_of b.deed b.by))
is_worded (sentence.Always c) = begins_alternative (tests_of c)
is_worded (sentence.Rests t) = false
is_worded (sentence.End w t) = false
is_worded _ = true

-- what a monitor watches, if it is a sentence
abbrev pub subject_text : SystemTables → MonitorSubject → List ℕ
subject_text sys (subject.Sentence e) = sentence_text sys e
subject_text sys (subject.Limit x) = []

unfoldable pub monitors_text : SystemTables → List Monitor → List ℕ
monitors_text sys monitors = flat_map (λ m. subject_text sys m.subject) monitors
