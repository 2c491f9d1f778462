-- Where a claim names no limit before its bound, its question has none.
use Rattle.std.proofs.Common.{ℕ, ◌≡◌, ◌∙◌, List, [], ◌∷◌, ◌++◌, Bool, true, false, Option, Some, None}
use Rattle.std.proofs.Common.{append_assoc, ap, codes, refl}
use Rattle.std.proofs.lemmas.List.{append_cancel_left, append_cancel_right}
use Rattle.std.specs.Prelude.{◌||◌, is_some}
use Rattle.fmp_question.specs.declared.question.Question.{Question}
use Rattle.fmp_question.specs.declared.question.Ticks.{Ticks}
use Rattle.fmp_question.specs.declared.question.Ticks.TheVariants as ticks
use Rattle.fmp_question.specs.Rules.{is_idle}
use Rattle.fmp_schedules.specs.declared.monitor.Monitor.{Monitor}
use Rattle.fmp_schedules.specs.declared.monitor.MonitorSubject.{MonitorSubject}
use Rattle.fmp_schedules.specs.declared.monitor.MonitorSubject.TheVariants as subject
use Rattle.fmp_schedules.specs.declared.limit.InterruptLimit.TheVariants as limit
use Rattle.fmp_schedules.specs.Monitors.{are_limiting, is_limiting}
use Rattle.fmp_searching.specs.Claims.{bound_text, count_text, interrupts_text, joint_text, lists_text, most_text}
use Rattle.fmp_searching.specs.Claims.{queue_text, queued_text, rules_text, ticks_text}
use Rattle.fmp_searching.specs.Limits as limits
use Rattle.fmp_searching.specs.Limits.{limits_text, subject_text}

front_empty : {A : Type 0} (s t : List A) → s ++ t ≡ [] → s ≡ []
front_empty [] t e = refl
front_empty (x ∷ s) t e = absurd cc

rest_empty : {A : Type 0} (s t : List A) → s ++ t ≡ [] → t ≡ []
rest_empty [] t e = e
rest_empty (x ∷ s) t e = absurd cc

no_interrupts : (most : Option ℕ) → interrupts_text most ≡ [] → most ≡ None
unfolding interrupts_text count_text most_text
no_interrupts None e = refl
no_interrupts (Some n) e = absurd cc

any_ticks : (t : Ticks) (limited : Bool) → ticks_text t limited ≡ [] → is_idle t ≡ false
unfolding ticks_text
any_ticks ticks.Any limited e = refl
any_ticks ticks.Idle true e = absurd cc
any_ticks ticks.Idle false e = absurd cc

no_queue : (queued : Option ℕ) (t : Ticks) (limited : Bool) → queued_text queued t limited ≡ [] → queued ≡ None
unfolding queued_text joint_text
no_queue None t limited e = refl
no_queue (Some n) ticks.Any true e = absurd cc
no_queue (Some n) ticks.Any false e = absurd cc
no_queue (Some n) ticks.Idle limited e = absurd cc

no_limit : (x : MonitorSubject) → subject_text x ≡ [] → is_limiting x ≡ false
unfolding limits.count_text limits.gap_text
no_limit (subject.Sentence e) empty = refl
no_limit (subject.Limit (limit.AtMost i n)) empty = absurd cc
no_limit (subject.Limit (limit.Apart i n)) empty = absurd cc

neither : (a b : Bool) → a ≡ false → b ≡ false → (a || b) ≡ false
neither false b p q = q
neither true b p q = absurd cc

no_limits : (monitors : List Monitor) → limits_text monitors ≡ [] → are_limiting monitors ≡ false
unfolding limits_text
no_limits [] empty = refl
no_limits (m ∷ ms) empty =
    neither (is_limiting m.subject) (are_limiting ms)
    (no_limit m.subject (front_empty (subject_text m.subject) (limits_text ms) empty))
    (no_limits ms (rest_empty (subject_text m.subject) (limits_text ms) empty))

-- what stands between two texts is empty if nothing stands between them
none_between : (before after between : List ℕ) → before ++ (between ++ after) ≡ before ++ after → between ≡ []
none_between before after between same =
    append_cancel_right between [] after (append_cancel_left before (between ++ after) after same)

module _ (q : Question) (bound : ℕ) (same : lists_text q bound ≡ codes ": over all lists of events" ++ bound_text bound)
  where
    -- neither the words for which events may come nor those for single interrupts are there
    no_words : rules_text q ++ limits_text q.monitors.items ≡ []
    unfolding lists_text
    no_words =
        none_between (codes ": over all lists of events") (bound_text bound)
        (rules_text q ++ limits_text q.monitors.items)
        (ap (λ t. codes ": over all lists of events" ++ t)
        (append_assoc (rules_text q) (limits_text q.monitors.items) (bound_text bound))
        ∙ same)

    timed : List ℕ
    timed = ticks_text q.ticks (is_some q.interrupts)

    queued : List ℕ
    queued = queued_text q.queued q.ticks (is_some q.interrupts)

    no_rules : interrupts_text q.interrupts ++ (timed ++ queued) ≡ []
    unfolding rules_text timed queued
    no_rules = front_empty (rules_text q) (limits_text q.monitors.items) no_words

    pub most_none : q.interrupts ≡ None
    most_none = no_interrupts q.interrupts (front_empty (interrupts_text q.interrupts) (timed ++ queued) no_rules)

    rest_none : timed ++ queued ≡ []
    rest_none = rest_empty (interrupts_text q.interrupts) (timed ++ queued) no_rules

    pub ticks_any : is_idle q.ticks ≡ false
    unfolding timed
    ticks_any = any_ticks q.ticks (is_some q.interrupts) (front_empty timed queued rest_none)

    pub queued_none : q.queued ≡ None
    unfolding queued
    queued_none = no_queue q.queued q.ticks (is_some q.interrupts) (rest_empty timed queued rest_none)

    pub none_limiting : are_limiting q.monitors.items ≡ false
    none_limiting =
        no_limits q.monitors.items (rest_empty (rules_text q) (limits_text q.monitors.items) no_words)
