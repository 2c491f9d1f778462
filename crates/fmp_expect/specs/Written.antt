-- Sentences as they are written: the grammar from the other side. The words of each sentence say it.
use Rattle.std.specs.Prelude.{ℕ, ◌≡◌, ◌+◌, ◌-◌, ◌<◌, ◌≤◌, ◌^◌, ℤ, pos, negsuc, List, [], ◌∷◌, ◌++◌, length}
use Rattle.std.specs.Prelude.{Bool, true, false, Option, Some, None, bytes_eq, codes, decimal, find, nat_eq}
use Rattle.std.specs.Prelude.{option_and_then}
use Rattle.std.specs.Prelude.{option_map, slice_get, if◌then◌else◌}
use Rattle.std.specs.Fmt.{signed_decimal}
use Rattle.std.specs.List.{AllByRecursion}
use Rattle.fmp_base.specs.Codes.{code_name}
use Rattle.fmp_base.specs.Names.{name_text}
use Rattle.fmp_base.specs.Systems.{SystemTables}
use Rattle.fmp_base.specs.Texts.{fault_text, task_name, word_text}
use Rattle.fmp_base.specs.declared.names.Name.{Name}
use Rattle.fmp_base.specs.declared.systems.Entry.{Entry}
use Rattle.fmp_base.specs.declared.systems.Entry.TheVariants as entry
use Rattle.fmp_monitors.specs.declared.condition.Condition.{Condition}
use Rattle.fmp_monitors.specs.declared.condition.ConditionTest.{ConditionTest}
use Rattle.fmp_monitors.specs.declared.condition.Measure.{Measure}
use Rattle.fmp_monitors.specs.declared.condition.Measure.TheVariants as measure
use Rattle.fmp_monitors.specs.declared.condition.Relation.{Relation}
use Rattle.fmp_monitors.specs.declared.condition.Relation.TheVariants as relation
use Rattle.fmp_monitors.specs.declared.condition.TestedFact.{TestedFact}
use Rattle.fmp_monitors.specs.declared.condition.TestedFact.TheVariants as fact
use Rattle.fmp_monitors.specs.declared.happening.ExpectedActor.{ExpectedActor}
use Rattle.fmp_monitors.specs.declared.happening.ExpectedActor.TheVariants as actor
use Rattle.fmp_monitors.specs.declared.happening.ExpectedDeed.{ExpectedDeed}
use Rattle.fmp_monitors.specs.declared.happening.ExpectedDeed.TheVariants as deed
use Rattle.fmp_monitors.specs.declared.happening.ExpectedResponse.{ExpectedResponse}
use Rattle.fmp_monitors.specs.declared.happening.ExpectedResponse.TheVariants as response
use Rattle.fmp_monitors.specs.declared.happening.ExpectedTrigger.{ExpectedTrigger}
use Rattle.fmp_monitors.specs.declared.happening.ExpectedTrigger.TheVariants as trigger
use Rattle.fmp_monitors.specs.declared.happening.Happening.{Happening}
use Rattle.fmp_monitors.specs.declared.sentence.Sentence.{Sentence}
use Rattle.fmp_monitors.specs.declared.sentence.Sentence.TheVariants as sentence
use Rattle.fmp_monitors.specs.Conditions.{tests_of}
use Rattle.fmp_expect.specs.Conditions.{condition_with, measure_named}
use Rattle.fmp_expect.specs.Parts.{actor_named, interrupt_named, task_named}
use Rattle.fmp_expect.specs.Words.{is_blank, is_word}

-- ---- names

-- a name, of an object that is there
abbrev pub named_text : Option Name → List ℕ
named_text None = []
named_text (Some name) = name_text name

-- the name of the body of a handler, where a configuration names it
abbrev pub name_of : Entry → Option Name
name_of (entry.Named name) = Some name
name_of (entry.Body k) = None

-- the name of the body of the handler of interrupt n
abbrev pub handler_name : SystemTables → (n : ℕ) → Option Name
handler_name sys n = option_and_then (λ x. name_of x.entry) (find (λ x. nat_eq x.number n) sys.interrupts)

abbrev pub actor_name : SystemTables → ExpectedActor → Option Name
actor_name sys (actor.Task t) = option_map (λ c. c.name) (slice_get sys.tasks t)
actor_name sys (actor.Cyclic h) = option_map (λ c. c.name) (slice_get sys.cyclics h)
actor_name sys (actor.Interrupt i) = handler_name sys (i + 1)

abbrev pub actor_text : SystemTables → ExpectedActor → List ℕ
actor_text sys who = named_text (actor_name sys who)

-- a number is this one
abbrev pub is_number : Option ℕ → (n : ℕ) → Bool
is_number None n = false
is_number (Some m) n = nat_eq m n

-- interrupt n by this name, if a sentence that has the name speaks of just this interrupt; else by its number
abbrev pub interrupt_by : SystemTables → (n : ℕ) → Option Name → List ℕ
interrupt_by sys n None = decimal n
interrupt_by sys n (Some name) =
    if is_number (interrupt_named sys (name_text name)) n then name_text name else decimal n

abbrev pub measure_name : SystemTables → Measure → Option Name
measure_name sys (measure.SharedWord i) = option_map (λ c. c.name) (slice_get sys.shared_words i)
measure_name sys (measure.Count i) = option_map (λ c. c.name) (slice_get sys.semaphores i)
measure_name sys (measure.Pattern i) = option_map (λ c. c.name) (slice_get sys.flags i)
measure_name sys (measure.Words i) = option_map (λ c. c.name) (slice_get sys.data_queues i)
measure_name sys (measure.Messages i) = option_map (λ c. c.name) (slice_get sys.mailboxes i)
measure_name sys (measure.Priority t) = option_map (λ c. c.name) (slice_get sys.tasks t)

-- ---- words

abbrev pub deed_word : ExpectedDeed → List ℕ
deed_word (deed.Answer code) = code_name code
deed_word (deed.Put value) = codes "put(" ++ (signed_decimal value ++ codes ")")
deed_word (deed.Stop fault) = fault_text fault

-- whose deed it is, before the words that are left; so below
abbrev pub by_words : SystemTables → Option ExpectedActor → (rest : List (List ℕ)) → List (List ℕ)
by_words sys None rest = rest
by_words sys (Some who) rest = codes "by" ∷ actor_text sys who ∷ rest

abbrev pub happening_words : SystemTables → Happening → (rest : List (List ℕ)) → List (List ℕ)
happening_words sys h rest = deed_word h.deed ∷ by_words sys h.by rest

abbrev pub response_words : SystemTables → ExpectedResponse → (rest : List (List ℕ)) → List (List ℕ)
response_words sys (response.Runs who) rest = actor_text sys who ∷ codes "runs" ∷ rest
response_words sys (response.Happens h) rest = happening_words sys h rest

abbrev pub trigger_words : SystemTables → ExpectedTrigger → List (List ℕ)
trigger_words sys (trigger.Interrupt i) = codes "int" ∷ interrupt_by sys (i + 1) (handler_name sys (i + 1)) ∷ []
trigger_words sys (trigger.Happens h) = happening_words sys h []

abbrev pub until_words : SystemTables → Option Happening → List (List ℕ)
until_words sys None = []
until_words sys (Some h) = codes "until" ∷ happening_words sys h []

abbrev pub relation_word : Relation → List ℕ
relation_word relation.Less = codes "<"
relation_word relation.LessOrEqual = codes "<="
relation_word relation.Equal = codes "=="
relation_word relation.Unequal = codes "!="
relation_word relation.Greater = codes ">"
relation_word relation.GreaterOrEqual = codes ">="

abbrev pub measured_words : SystemTables → Measure → (rest : List (List ℕ)) → List (List ℕ)
measured_words sys (measure.Priority t) rest =
    codes "priority" ∷ named_text (measure_name sys (measure.Priority t)) ∷ rest
measured_words sys m rest = named_text (measure_name sys m) ∷ rest

abbrev pub runner_word : SystemTables → Option ℕ → List ℕ
runner_word sys None = codes "nobody"
runner_word sys (Some t) = task_name sys t

abbrev pub fact_words : SystemTables → TestedFact → (rest : List (List ℕ)) → List (List ℕ)
fact_words sys (fact.Compares m r v) rest = measured_words sys m (relation_word r ∷ signed_decimal v ∷ rest)
fact_words sys (fact.Is t w) rest = task_name sys t ∷ codes "is" ∷ word_text w ∷ rest
fact_words sys (fact.Runs p who) rest = runner_word sys who ∷ codes "runs" ∷ codes "on" ∷ decimal (p + 1) ∷ rest

abbrev pub test_words : SystemTables → ConditionTest → (rest : List (List ℕ)) → List (List ℕ)
test_words sys t rest =
    if t.negated then codes "not" ∷ fact_words sys t.fact rest else fact_words sys t.fact rest

abbrev pub joint_word : (alternative : Bool) → List ℕ
joint_word true = codes "or"
joint_word false = codes "and"

-- tests after another one
abbrev pub more_tests : SystemTables → List ConditionTest → List (List ℕ)
more_tests sys [] = []
more_tests sys (t ∷ ts) = joint_word t.alternative ∷ test_words sys t (more_tests sys ts)

abbrev pub tests_words : SystemTables → List ConditionTest → List (List ℕ)
tests_words sys [] = []
tests_words sys (t ∷ ts) = test_words sys t (more_tests sys ts)

-- the words of a sentence
abbrev pub sentence_words : SystemTables → Sentence → List (List ℕ)
sentence_words sys (sentence.Never h) = codes "never" ∷ happening_words sys h []
sentence_words sys (sentence.Before a b) = happening_words sys a (codes "before" ∷ happening_words sys b [])
sentence_words sys (sentence.NeverAfter h a b) =
    codes "never" ∷ happening_words sys h (codes "after" ∷ happening_words sys a (until_words sys b))
sentence_words sys (sentence.Within r n t) =
    response_words sys r (codes "within" ∷ decimal n ∷ codes "ticks" ∷ codes "of" ∷ trigger_words sys t)
sentence_words sys (sentence.OneAtATime a b) =
    codes "between"
    ∷ happening_words sys a
    (codes "and" ∷ happening_words sys b (codes "one" ∷ codes "at" ∷ codes "a" ∷ codes "time" ∷ []))
sentence_words sys (sentence.Always c) = codes "always" ∷ tests_words sys (tests_of c)
sentence_words sys (sentence.Rests t) = task_name sys t ∷ codes "rests" ∷ []
sentence_words sys (sentence.End w t) = codes "end" ∷ word_text w ∷ task_name sys t ∷ []

-- words with a blank between two
abbrev pub spaced_more : List (List ℕ) → List ℕ
spaced_more [] = []
spaced_more (w ∷ ws) = 32 ∷ (w ++ spaced_more ws)

abbrev pub spaced : List (List ℕ) → List ℕ
spaced [] = []
spaced (w ∷ ws) = w ++ spaced_more ws

-- ---- which sentences can be written

-- a value of 32 bits
abbrev pub IsValue : ℤ → Type 0
IsValue (pos n) = n < 2 ^ 31
IsValue (negsuc n) = n < 2 ^ 31

-- what a name names first is what it is to name
abbrev pub IsActor : SystemTables → ExpectedActor → Type 0
IsActor sys who = actor_named sys (actor_text sys who) ≡ Some who

abbrev pub IsTask : SystemTables → (t : ℕ) → Type 0
IsTask sys t = task_named sys (task_name sys t) ≡ Some t

abbrev pub IsDeed : ExpectedDeed → Type 0
IsDeed (deed.Put value) = IsValue value
IsDeed _ = Unit {0}

abbrev pub IsBy : SystemTables → Option ExpectedActor → Type 0
IsBy sys None = Unit {0}
IsBy sys (Some who) = IsActor sys who

abbrev pub IsHappening : SystemTables → Happening → Type 0
IsHappening sys h = IsDeed h.deed × IsBy sys h.by

abbrev pub IsUntil : SystemTables → Option Happening → Type 0
IsUntil sys None = Unit {0}
IsUntil sys (Some h) = IsHappening sys h

abbrev pub IsResponse : SystemTables → ExpectedResponse → Type 0
IsResponse sys (response.Runs who) = IsActor sys who
IsResponse sys (response.Happens h) = IsHappening sys h

abbrev pub IsTrigger : SystemTables → ExpectedTrigger → Type 0
IsTrigger sys (trigger.Interrupt i) = i < 32
IsTrigger sys (trigger.Happens h) = IsHappening sys h

-- a name that is no word of a condition
pub record IsPlain (name : List ℕ) : Type 0 where
  pub nobody : bytes_eq name (codes "nobody") ≡ false
  pub not_not : bytes_eq name (codes "not") ≡ false
  pub priority : bytes_eq name (codes "priority") ≡ false
  pub is : bytes_eq name (codes "is") ≡ false
  pub runs : bytes_eq name (codes "runs") ≡ false
  pub rests : bytes_eq name (codes "rests") ≡ false

abbrev pub IsMeasure : SystemTables → Measure → Type 0
IsMeasure sys (measure.Priority t) =
    let name = named_text (measure_name sys (measure.Priority t)) in IsPlain name × (task_named sys name ≡ Some t)
IsMeasure sys m = let name = named_text (measure_name sys m) in IsPlain name × (measure_named sys name ≡ Some m)

abbrev pub IsRunner : SystemTables → Option ℕ → Type 0
IsRunner sys None = Unit {0}
IsRunner sys (Some t) = IsPlain (task_name sys t) × IsTask sys t

abbrev pub IsFact : SystemTables → TestedFact → Type 0
IsFact sys (fact.Compares m r v) = IsMeasure sys m × IsValue v
IsFact sys (fact.Is t w) = IsPlain (task_name sys t) × IsTask sys t
IsFact sys (fact.Runs p who) = IsRunner sys who × (p < sys.processors) × (sys.processors ≤ 8)

abbrev pub begins_alternative : List ConditionTest → Bool
begins_alternative [] = false
begins_alternative (t ∷ ts) = t.alternative

-- a condition of one to eight tests, of which the first begins an alternative
pub record IsCondition (sys : SystemTables) (c : Condition) : Type 0 where
  pub is : c ≡ condition_with (tests_of c)
  pub few : length (tests_of c) ≤ 8
  pub first : begins_alternative (tests_of c) ≡ true
  pub facts : AllByRecursion (λ t. IsFact sys t.fact) (tests_of c)

-- a sentence whose names are found, and whose numbers are in range
abbrev pub IsWritable : SystemTables → Sentence → Type 0
IsWritable sys (sentence.Never h) = IsHappening sys h
IsWritable sys (sentence.Before a b) = IsHappening sys a × IsHappening sys b
IsWritable sys (sentence.NeverAfter h a b) = IsHappening sys h × IsHappening sys a × IsUntil sys b
IsWritable sys (sentence.Within r n t) = IsResponse sys r × (n < 2 ^ 31) × IsTrigger sys t
IsWritable sys (sentence.OneAtATime a b) = IsHappening sys a × IsHappening sys b
IsWritable sys (sentence.Always c) = IsCondition sys c
IsWritable sys (sentence.Rests t) = IsTask sys t
IsWritable sys (sentence.End w t) = IsTask sys t

-- words of which none is empty, and none has a blank or the begin of a comment
pub record AreWords (ws : List (List ℕ)) : Type 0 where
  pub some : AllByRecursion (λ w. is_word w ≡ true) ws
  pub unblank : AllByRecursion (λ w. AllByRecursion (λ b. is_blank b ≡ false) w) ws
  pub bare : AllByRecursion (λ w. AllByRecursion (λ b. nat_eq b 35 ≡ false) w) ws
