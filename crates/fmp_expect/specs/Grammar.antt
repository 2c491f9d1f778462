-- The grammar of texts of expectations. In the words of a line, without what stands after a #:
--
--     sentence = "never" happening [ "after" happening ] [ "until" happening ]
--              | happening "before" happening
--              | "between" happening "and" happening "one" "at" "a" "time"
--              | response "within" number "ticks" "of" trigger
--              | "always" condition
--              | task "rests"
--              | "end" state task
--     happening = deed [ "by" actor ]
--     deed      = code | fault | "put(" value ")"
--     response  = actor "runs" | happening
--     trigger   = "int" interrupt | happening
--     interrupt = number | body
--
-- An actor is the name of a task, else of a cyclic handler, else a body, and a body is one that the handler of only one
-- interrupt has. A line without words says nothing. What a condition is stands in Conditions, and a sentence about
-- calls in CallSentences.
use Rattle.std.specs.Prelude.{ℕ, ◌≡◌, ◌+◌, ◌-◌, List, [], ◌∷◌, Option, Some, None, ◌++◌, Result, Ok, Err, Bool, codes}
use Rattle.std.specs.Prelude.{bytes_eq, if◌then◌else◌}
use Rattle.fmp_base.specs.Systems.{SystemTables}
use Rattle.fmp_monitors.specs.declared.happening.ExpectedActor.{ExpectedActor}
use Rattle.fmp_monitors.specs.declared.happening.ExpectedActor.TheVariants as actor
use Rattle.fmp_monitors.specs.declared.happening.ExpectedDeed.{ExpectedDeed}
use Rattle.fmp_monitors.specs.declared.happening.ExpectedDeed.TheVariants as deed
use Rattle.fmp_monitors.specs.declared.happening.ExpectedResponse.{ExpectedResponse}
use Rattle.fmp_monitors.specs.declared.happening.ExpectedResponse.TheVariants as response
use Rattle.fmp_monitors.specs.declared.happening.ExpectedTrigger.{ExpectedTrigger}
use Rattle.fmp_monitors.specs.declared.happening.ExpectedTrigger.TheVariants as trigger
use Rattle.fmp_monitors.specs.declared.happening.Happening.{Happening}
use Rattle.fmp_monitors.specs.declared.sentence.Sentence.{Sentence}
use Rattle.fmp_monitors.specs.declared.sentence.Sentence.TheVariants as sentence
use Rattle.fmp_expect.specs.declared.expectation.Expected.{Expected}
use Rattle.fmp_expect.specs.declared.fault.ExpectFault.{ExpectFault}
use Rattle.fmp_expect.specs.declared.fault.ExpectFault.TheVariants as fault
use Rattle.fmp_expect.specs.declared.fault.Expects.{Expects}
use Rattle.fmp_expect.specs.declared.fault.Expects.TheVariants as expects
use Rattle.fmp_expect.specs.declared.fault.ExpectationFlaw.{ExpectationFlaw}
use Rattle.fmp_expect.specs.Conditions.{condition_of}
use Rattle.fmp_expect.specs.Parts.{Read, actor_of, and_then, begins, begins_actor, begins_deed, after_first, after_word}
use Rattle.fmp_expect.specs.Parts.{flaw_at, happening_of, interrupt_number, number_in, read, state_of, task_of, whole}
use Rattle.fmp_expect.specs.Words.{before_comment, lines_of, words_of}

-- the line ends after a deed, or `by` says whose it is if nothing does yet
abbrev pub end_after : Option ExpectedActor → Expects
end_after None = expects.EndOrBy
end_after (Some who) = expects.End

-- `one` stands after a happening, or `by`
abbrev pub one_after : Option ExpectedActor → Expects
one_after None = expects.OneOrBy
one_after (Some who) = expects.One

-- what may stand after the happening of `never`: after an answer `at` too, unless it is one of a handler
abbrev pub never_end_by : Option ExpectedActor → ExpectedDeed → Expects
never_end_by (Some (actor.Task t)) (deed.Answer code) = expects.NeverEndOrAt
never_end_by (Some who) d = expects.NeverEnd
never_end_by None (deed.Answer code) = expects.NeverEndByOrAt
never_end_by None (deed.Stop fault) = expects.NeverEndOrBy
never_end_by None (deed.Put value) = expects.NeverEndOrBy

abbrev pub never_end : Happening → Expects
never_end h = never_end_by h.by h.deed

-- `at` and the number of a line were read: the line ends, but where calls stand is not known
abbrev pub at_ended : (at rest : List (List ℕ)) → ExpectationFlaw
at_ended ws [] = flaw_at expects.TextNeeded ws
at_ended ws (w ∷ rest) = flaw_at expects.End (w ∷ rest)

abbrev pub at_read : (at : List (List ℕ)) → Result (Read ℕ) ExpectationFlaw → ExpectationFlaw
at_read ws (Ok n) = at_ended ws n.rest
at_read ws (Err e) = e

-- the flaw of words that begin with `at`, after a happening of this actor and deed
abbrev pub at_flaw : Option ExpectedActor → ExpectedDeed → List (List ℕ) → ExpectationFlaw
at_flaw (Some (actor.Task t)) (deed.Answer code) ws =
    at_read ws (number_in expects.Line 1 2147483647 (after_first ws))
at_flaw (Some who) (deed.Answer code) ws = flaw_at expects.TaskOnly ws
at_flaw (Some who) d ws = flaw_at expects.NeverEnd ws
at_flaw None (deed.Answer code) ws = at_read ws (number_in expects.Line 1 2147483647 (after_first ws))
at_flaw None (deed.Stop fault) ws = flaw_at expects.NeverEndOrBy ws
at_flaw None (deed.Put value) ws = flaw_at expects.NeverEndOrBy ws

-- what may stand after the happening of `after`
abbrev pub until_end : Option ExpectedActor → Expects
until_end None = expects.UntilEndOrBy
until_end (Some who) = expects.UntilEnd

abbrev pub and_after : Option ExpectedActor → Expects
and_after None = expects.AndOrBy
and_after (Some who) = expects.And

-- `until` was read, after this happening and this opening
abbrev pub closing_of : SystemTables → Happening → Happening → List (List ℕ) → Result Sentence ExpectationFlaw
closing_of sys h opening ws =
    and_then (happening_of sys ws) (λ c.
    whole (end_after c.value.by)
    (sentence.NeverAfter h opening (Some c.value)) c.rest)

abbrev pub opened_of : SystemTables → Happening → Happening → List (List ℕ) → Result Sentence ExpectationFlaw
opened_of sys h opening [] =
    Ok (sentence.NeverAfter h opening None)
opened_of sys h opening (w ∷ ws) =
    if bytes_eq w (codes "until") then closing_of sys h opening ws else Err (flaw_at (until_end opening.by) (w ∷ ws))

-- `after` was read
abbrev pub after_of : SystemTables → Happening → List (List ℕ) → Result Sentence ExpectationFlaw
after_of sys h ws = and_then (happening_of sys ws) (λ o. opened_of sys h o.value o.rest)

-- `until` was read, and no `after`
abbrev pub until_of : SystemTables → Happening → List (List ℕ) → Result Sentence ExpectationFlaw
until_of sys h ws =
    and_then (happening_of sys ws) (λ c.
    whole (end_after c.value.by) (sentence.Before c.value h) c.rest)

abbrev pub never_rest : SystemTables → Happening → List (List ℕ) → Result Sentence ExpectationFlaw
never_rest sys h [] = Ok (sentence.Never h)
never_rest sys h (w ∷ ws) =
    if bytes_eq w (codes "after") then after_of sys h ws
    else if bytes_eq w (codes "until") then until_of sys h ws
    else if bytes_eq w (codes "at") then Err (at_flaw h.by h.deed (w ∷ ws))
    else Err (flaw_at (never_end h) (w ∷ ws))

-- `never` was read
abbrev pub never_of : SystemTables → List (List ℕ) → Result Sentence ExpectationFlaw
never_of sys ws = and_then (happening_of sys ws) (λ h. never_rest sys h.value h.rest)

-- `int` was read
abbrev pub interrupt_of : SystemTables → List (List ℕ) → Result (Read ExpectedTrigger) ExpectationFlaw
interrupt_of sys ws =
    and_then (interrupt_number sys ws) (λ i. read (trigger.Interrupt (i.value - 1)) i.rest)

abbrev pub happens_of : SystemTables → List (List ℕ) → Result (Read ExpectedTrigger) ExpectationFlaw
happens_of sys ws = and_then (happening_of sys ws) (λ h. read (trigger.Happens h.value) h.rest)

-- what starts the time: `int` and an interrupt, or a happening
abbrev pub trigger_of : SystemTables → List (List ℕ) → Result (Read ExpectedTrigger) ExpectationFlaw
trigger_of sys ws =
    if begins (codes "int") ws then interrupt_of sys (after_first ws)
    else if begins_deed ws then happens_of sys ws
    else Err (flaw_at expects.Int ws)

-- what may stand after a trigger
abbrev pub trigger_end : ExpectedTrigger → Expects
trigger_end (trigger.Interrupt i) = expects.End
trigger_end (trigger.Happens h) = end_after h.by

-- the ticks were read
abbrev pub of_of : SystemTables → ExpectedResponse → (ticks : ℕ) → List (List ℕ) → Result Sentence ExpectationFlaw
of_of sys r n ws =
    and_then (after_word expects.Ticks (codes "ticks") ws) (λ rest.
    and_then (after_word expects.Of (codes "of") rest) (λ rest.
    and_then (trigger_of sys rest) (λ t.
    whole (trigger_end t.value) (sentence.Within r n t.value) t.rest)))

-- `within` was read
abbrev pub within_of : SystemTables → ExpectedResponse → List (List ℕ) → Result Sentence ExpectationFlaw
within_of sys r ws =
    and_then (number_in expects.Count 0 2147483647 ws) (λ n. of_of sys r n.value n.rest)

-- an actor is to come, and `runs` after it
abbrev pub runs_of : SystemTables → List (List ℕ) → Result Sentence ExpectationFlaw
runs_of sys ws =
    and_then (actor_of sys ws) (λ who.
    and_then (after_word expects.Runs (codes "runs") who.rest) (λ rest.
    and_then (after_word expects.Within (codes "within") rest) (λ rest.
    within_of sys (response.Runs who.value) rest)))

-- what may stand after a happening that begins a sentence
abbrev pub before_end : Option ExpectedActor → Expects
before_end None = expects.BeforeOrBy
before_end (Some who) = expects.Before

-- `before` is to come after a happening
abbrev pub before_of : SystemTables → Happening → List (List ℕ) → Result Sentence ExpectationFlaw
before_of sys a ws =
    and_then (after_word (before_end a.by) (codes "before") ws) (λ rest.
    and_then (happening_of sys rest) (λ b.
    whole (end_after b.value.by) (sentence.Before a b.value) b.rest))

abbrev pub order_rest : SystemTables → Happening → List (List ℕ) → Result Sentence ExpectationFlaw
order_rest sys a ws =
    if begins (codes "within") ws then within_of sys (response.Happens a) (after_first ws) else before_of sys a ws

-- a happening begins the sentence
abbrev pub order_of : SystemTables → List (List ℕ) → Result Sentence ExpectationFlaw
order_of sys ws = and_then (happening_of sys ws) (λ a. order_rest sys a.value a.rest)

-- the two happenings were read
abbrev pub alone_of : Happening → Happening → List (List ℕ) → Result Sentence ExpectationFlaw
alone_of a b ws =
    and_then (after_word (one_after b.by) (codes "one") ws) (λ rest.
    and_then (after_word expects.At (codes "at") rest) (λ rest.
    and_then (after_word expects.A (codes "a") rest) (λ rest.
    and_then (after_word expects.Time (codes "time") rest) (λ rest.
    whole expects.End (sentence.OneAtATime a b) rest))))

-- `between` was read
abbrev pub between_of : SystemTables → List (List ℕ) → Result Sentence ExpectationFlaw
between_of sys ws =
    and_then (happening_of sys ws) (λ a.
    and_then (after_word (and_after a.value.by) (codes "and") a.rest) (λ rest.
    and_then (happening_of sys rest) (λ b. alone_of a.value b.value b.rest)))

-- a task is to come, and `rests` after it
abbrev pub rests_of : SystemTables → List (List ℕ) → Result Sentence ExpectationFlaw
rests_of sys ws =
    and_then (task_of sys ws) (λ t. whole expects.End (sentence.Rests t.value) (after_first t.rest))

-- `always` was read
abbrev pub always_of : SystemTables → List (List ℕ) → Result Sentence ExpectationFlaw
always_of sys ws = and_then (condition_of sys ws) (λ c. Ok (sentence.Always c))

-- `end` was read
abbrev pub end_of : SystemTables → List (List ℕ) → Result Sentence ExpectationFlaw
end_of sys ws =
    and_then (state_of ws) (λ s.
    and_then (task_of sys s.rest) (λ t.
    whole expects.End (sentence.End s.value t.value) t.rest))

-- these words begin no sentence: after an actor `runs` or `rests` is to come
abbrev pub no_sentence : SystemTables → List (List ℕ) → ExpectationFlaw
no_sentence sys ws =
    if begins_actor sys ws then flaw_at expects.RunsOrRests (after_first ws) else flaw_at expects.Sentence ws

-- the sentence that its first word tells
abbrev pub told_by_first : SystemTables → List (List ℕ) → Result Sentence ExpectationFlaw
told_by_first sys ws =
    if begins (codes "never") ws then never_of sys (after_first ws)
    else if begins (codes "always") ws then always_of sys (after_first ws)
    else if begins (codes "between") ws then between_of sys (after_first ws)
    else if begins (codes "end") ws then end_of sys (after_first ws)
    else if begins_deed ws then order_of sys ws
    else Err (no_sentence sys ws)

-- the sentence of the words of a line. A second word `runs` or `rests` decides, so that each name may stand before it
abbrev pub sentence_of : SystemTables → List (List ℕ) → Result Sentence ExpectationFlaw
sentence_of sys ws =
    if begins (codes "runs") (after_first ws) then runs_of sys ws
    else if begins (codes "rests") (after_first ws) then rests_of sys ws
    else told_by_first sys ws

abbrev pub said_by : SystemTables → List (List ℕ) → Option (Result Sentence ExpectationFlaw)
said_by sys [] = None
said_by sys (w ∷ ws) = Some (sentence_of sys (w ∷ ws))

-- what a line says, if it has words
abbrev pub line_meaning : SystemTables → List ℕ → Option (Result Sentence ExpectationFlaw)
line_meaning sys line = said_by sys (words_of (before_comment line))

-- what line n says in front of what others say; the first fault comes first
abbrev pub in_front : ℕ → Option (Result Sentence ExpectationFlaw) → Result (List Expected) ExpectFault →
    Result (List Expected) ExpectFault
in_front n None rest = rest
in_front n (Some (Err e)) rest = Err (fault.Line n e)
in_front n (Some (Ok e)) (Err f) = Err f
in_front n (Some (Ok e)) (Ok es) = Ok (record { line = n; sentence = e } ∷ es)

-- the expectations of lines that are numbered from n on, or the first fault
abbrev pub expectations_from : SystemTables → ℕ → List (List ℕ) → Result (List Expected) ExpectFault
expectations_from sys n [] = Ok []
expectations_from sys n (line ∷ lines) = in_front n (line_meaning sys line) (expectations_from sys (n + 1) lines)

-- one expectation more in front of others, if there is one
abbrev pub one_more : Option Expected → Result (List Expected) ExpectFault → Result (List Expected) ExpectFault
one_more None rest = rest
one_more (Some x) (Err f) = Err f
one_more (Some x) (Ok xs) = Ok (x ∷ xs)

-- expectations in front of others, or the fault
abbrev pub after_all : List Expected → Result (List Expected) ExpectFault → Result (List Expected) ExpectFault
after_all xs (Ok ys) = Ok (xs ++ ys)
after_all xs (Err f) = Err f

-- the expectations of a text, or its first fault
abbrev pub expectations_of : SystemTables → List ℕ → Result (List Expected) ExpectFault
expectations_of sys text = expectations_from sys 1 (lines_of text)

-- a reader's fault is that of the text, unless memory ran out
abbrev pub IsFaultOf : ExpectFault → Result (List Expected) ExpectFault → Type 0
IsFaultOf fault.Memory r = Unit {0}
IsFaultOf (fault.Line n e) r = r ≡ Err (fault.Line n e)
