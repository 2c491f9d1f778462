-- A sentence along the lines of events, and by what was shown.
use Rattle.std.proofs.Common.{◌≡◌, ◌∙◌, ℕ, ◌+◌, ◌-◌, List, [], ◌∷◌, Option, Some, None, Bool, true, false}
use Rattle.std.proofs.Common.{ap, cond, refl, sym}
use Rattle.std.specs.Prelude.{◌&&◌, ◌||◌, not, is_some}
use Rattle.fmp_base.specs.declared.events.Event.{Event}
use Rattle.fmp_base.specs.declared.events.Line.{Line}
use Rattle.fmp_base.specs.declared.events.TaskState.{TaskState}
use Rattle.fmp_base.specs.Meanings.{Meaning}
use Rattle.fmp_base.specs.Runs.{run}
use Rattle.fmp_base.specs.States.{KernelState}
use Rattle.fmp_expect.proofs.Events.{same_told}
use Rattle.fmp_expect.specs.declared.expectation.Expected.{Expected}
use Rattle.fmp_expect.specs.Meaning.{Told, breaks_at_end, broken_at, failure, if_broken, outcome, seen_in, with_lines}
use Rattle.fmp_expect.specs.Parts.{or_else}
use Rattle.fmp_expect.specs.Runs.{last_told, line_before, lines_told, run_told, with_events}
use Rattle.fmp_kernel.specs.Comings.{reaction_of, view_after_each}
use Rattle.fmp_kernel.specs.KernelViews.{KernelView}
use Rattle.fmp_monitors.proofs.MonitorLaws.{breaks_is, next_is}
use Rattle.fmp_monitors.specs.declared.happening.Happening.{Happening}
use Rattle.fmp_monitors.specs.declared.sentence.Sentence.{Sentence}
use Rattle.fmp_monitors.specs.declared.sentence.Sentence.TheVariants as sentence
use Rattle.fmp_monitors.specs.declared.standing.Standing.{Standing}
use Rattle.fmp_monitors.specs.Happenings.{answers, asks, holder_on, is_met, is_tick, tells, tells_any}
use Rattle.fmp_monitors.specs.Meaning.{Seen, OfLine, OfState, breaks, by_line, has_come, holder, is_open, is_owed}
use Rattle.fmp_monitors.specs.Meaning.{is_zero}
use Rattle.fmp_monitors.specs.Monitors.{breaks_by_line, next_by_line, standing_of}
use Rattle.fmp_schedules.specs.declared.monitor.Monitor.{Monitor}
use Rattle.fmp_schedules.specs.declared.monitor.MonitorSubject.TheVariants as subject
use Rattle.fmp_schedules.specs.Monitors.{at_open, is_broken, is_broken_along, monitor_after}
use Rattle.fmp_trials.specs.Lines.{goes_by_lines}
use Rattle.fmp_trials.specs.Verdicts.{states_in, verdict}

-- the monitor of a sentence of which this is kept
abbrev monitor : Sentence → Standing → Monitor
monitor e s = record { subject = subject.Sentence e; standing = s }

pub or_false : (a : Bool) → (a || false) ≡ a
or_false true = refl
or_false false = refl

pub or_assoc : (a b c : Bool) → (a || (b || c)) ≡ ((a || b) || c)
or_assoc true b c = refl
or_assoc false b c = refl

pub some_or : (a b : Option ℕ) → is_some (or_else a b) ≡ (is_some a || is_some b)
some_or None b = refl
some_or (Some n) b = refl

pub some_if : (b : Bool) (n : ℕ) → is_some (if_broken b n) ≡ b
some_if true n = refl
some_if false n = refl

-- one thing more that is shown
pub fails_also : (e : Sentence) (n : ℕ) (x : Seen) (told : List Told)
    → is_some (or_else (failure e told) (if_broken (breaks e (seen_in told) x) n))
    ≡ (is_some (failure e told) || breaks e (seen_in told) x)
fails_also e n x told =
    some_or (failure e told) (if_broken (breaks e (seen_in told) x) n)
    ∙ ap (λ b. is_some (failure e told) || b) (some_if (breaks e (seen_in told) x) n)

next_line : (e : Sentence) (before : List Seen) (l : Line)
    → next_by_line e (standing_of e before) l ≡ standing_of e (OfLine l ∷ before)
next_line e before l = next_is e before (OfLine l)

breaks_line : (e : Sentence) (before : List Seen) (l : Line)
    → breaks_by_line e (standing_of e before) l ≡ breaks e before (OfLine l)
breaks_line e before l = breaks_is e before (OfLine l)

-- what is kept after the lines of an event
after_lines : (e : Sentence) (n : ℕ) (ls : List Line) (told : List Told)
    → monitor_after (monitor e (standing_of e (seen_in told))) ls
    ≡ monitor e (standing_of e (seen_in (with_lines n ls told)))
after_lines e n [] told = refl
after_lines e n (l ∷ ls) told =
    ap (λ (s : Standing). monitor_after (monitor e s) ls) (next_line e (seen_in told) l)
    ∙ after_lines e n ls (record { event = n; seen = OfLine l } ∷ told)

-- whether one of them breaks the sentence
broken_lines : (e : Sentence) (n : ℕ) (ls : List Line) (told : List Told)
    → is_some (failure e (with_lines n ls told))
    ≡ (is_some (failure e told) || is_broken (monitor e (standing_of e (seen_in told))) ls)
broken_lines e n [] told = sym (or_false (is_some (failure e told)))
broken_lines e n (l ∷ ls) told =
    let before : List Seen = seen_in told in
    let failed : Bool = is_some (failure e told) in
    broken_lines e n ls (record { event = n; seen = OfLine l } ∷ told)
    ∙ ap (λ b. b || is_broken (monitor e (standing_of e (OfLine l ∷ before))) ls) (fails_also e n (OfLine l) told)
    ∙ ap (λ (s : Standing). (failed || breaks e before (OfLine l)) || is_broken (monitor e s) ls)
    (sym (next_line e before l))
    ∙ ap (λ b. (failed || b) || is_broken (monitor e (next_by_line e (standing_of e before) l)) ls)
    (sym (breaks_line e before l))
    ∙ sym (or_assoc failed (breaks_by_line e (standing_of e before) l)
    (is_broken (monitor e (next_by_line e (standing_of e before) l)) ls))

broken_along : (e : Sentence) (n : ℕ) (events : List (List Line)) (told : List Told)
    → is_some (failure e (with_events n events told))
    ≡ (is_some (failure e told) || is_broken_along (monitor e (standing_of e (seen_in told))) events)
broken_along e n [] told = sym (or_false (is_some (failure e told)))
broken_along e n (ls ∷ rest) told =
    let here : Monitor = monitor e (standing_of e (seen_in told)) in
    let failed : Bool = is_some (failure e told) in
    broken_along e (n + 1) rest (with_lines n ls told)
    ∙ ap (λ b. b || is_broken_along (monitor e (standing_of e (seen_in (with_lines n ls told)))) rest)
    (broken_lines e n ls told)
    ∙ ap (λ (m : Monitor). (failed || is_broken here ls) || is_broken_along m rest) (sym (after_lines e n ls told))
    ∙ sym (or_assoc failed (is_broken here ls) (is_broken_along (monitor_after here ls) rest))

opened : (e : Sentence) → at_open e ≡ monitor e (standing_of e [])
opened (sentence.Never h) = refl
opened (sentence.Before a b) = refl
opened (sentence.NeverAfter h a b) = refl
opened (sentence.Within r n t) = refl
opened (sentence.OneAtATime a b) = refl
opened (sentence.Always c) = refl
opened (sentence.Rests t) = refl
opened (sentence.End s t) = refl

pub along : (e : Sentence) (n : ℕ) (events : List (List Line))
    → is_broken_along (at_open e) events ≡ is_some (failure e (with_events n events []))
along e n events = ap (λ (m : Monitor). is_broken_along m events) (opened e) ∙ sym (broken_along e n events [])

-- The states that are shown between lines change nothing for what goes by lines.

abbrev lines_seen : List Told → List Seen
lines_seen told = seen_in (lines_told told)

abbrev told_as : ℕ → Seen → Told
told_as n x = record { event = n; seen = x }

come_one : (is : Line → Bool) (n : ℕ) (x : Seen) (told : List Told)
    → has_come is (seen_in told) ≡ has_come is (lines_seen told)
    → has_come is (x ∷ seen_in told) ≡ has_come is (seen_in (line_before (told_as n x) x (lines_told told)))
come_one is n (OfLine l) told h = ap (λ b. is l || b) h
come_one is n (OfState s) told h = h

come_lines : (is : Line → Bool) (told : List Told) → has_come is (seen_in told) ≡ has_come is (lines_seen told)
come_lines is [] = refl
come_lines is (t ∷ told) = come_one is t.event t.seen told (come_lines is told)

open_one : (opens closes : Line → Bool) (n : ℕ) (x : Seen) (told : List Told)
    → is_open opens closes (seen_in told) ≡ is_open opens closes (lines_seen told)
    → is_open opens closes (x ∷ seen_in told)
    ≡ is_open opens closes (seen_in (line_before (told_as n x) x (lines_told told)))
open_one opens closes n (OfLine l) told h = ap (λ b. opens l || (not (closes l) && b)) h
open_one opens closes n (OfState s) told h = h

open_lines : (opens closes : Line → Bool) (told : List Told)
    → is_open opens closes (seen_in told) ≡ is_open opens closes (lines_seen told)
open_lines opens closes [] = refl
open_lines opens closes (t ∷ told) = open_one opens closes t.event t.seen told (open_lines opens closes told)

owed_one : (replies requests : Line → Bool) (n : ℕ) (x : Seen) (told : List Told)
    → ((m : ℕ) → is_owed replies requests m (seen_in told) ≡ is_owed replies requests m (lines_seen told))
    → (m : ℕ) → is_owed replies requests m (x ∷ seen_in told)
    ≡ is_owed replies requests m (seen_in (line_before (told_as n x) x (lines_told told)))
owed_one replies requests n (OfLine l) told h m =
    ap
    (λ b. cond (replies l) false
    (cond (requests l) (is_zero m || b) (cond (is_tick l) (is_owed replies requests (m - 1) (seen_in told)) b)))
    (h m)
    ∙ ap
    (λ b. cond (replies l) false
    (cond (requests l) (is_zero m || is_owed replies requests m (lines_seen told))
    (cond (is_tick l) b (is_owed replies requests m (lines_seen told)))))
    (h (m - 1))
owed_one replies requests n (OfState s) told h m = h m

owed_lines : (replies requests : Line → Bool) (told : List Told) (m : ℕ)
    → is_owed replies requests m (seen_in told) ≡ is_owed replies requests m (lines_seen told)
owed_lines replies requests [] m = refl
owed_lines replies requests (t ∷ told) m =
    owed_one replies requests t.event t.seen told (owed_lines replies requests told) m

held_one : (enters leaves : Happening) (n : ℕ) (x : Seen) (told : List Told)
    → holder enters leaves (seen_in told) ≡ holder enters leaves (lines_seen told)
    → holder enters leaves (x ∷ seen_in told)
    ≡ holder enters leaves (seen_in (line_before (told_as n x) x (lines_told told)))
held_one enters leaves n (OfLine l) told h = ap (λ (o : Option ℕ). holder_on enters leaves o l) h
held_one enters leaves n (OfState s) told h = h

held_lines : (enters leaves : Happening) (told : List Told)
    → holder enters leaves (seen_in told) ≡ holder enters leaves (lines_seen told)
held_lines enters leaves [] = refl
held_lines enters leaves (t ∷ told) = held_one enters leaves t.event t.seen told (held_lines enters leaves told)

breaks_lines : (e : Sentence) → goes_by_lines e ≡ true → (told : List Told) (x : Seen)
    → breaks e (seen_in told) x ≡ breaks e (lines_seen told) x
breaks_lines (sentence.Never h) is told x = refl
breaks_lines (sentence.Before a b) is told x =
    ap (λ c. by_line (tells b) x && not (by_line (tells a) x || c)) (come_lines (tells a) told)
breaks_lines (sentence.NeverAfter h a b) is told x =
    ap (λ c. by_line (tells h) x && c) (open_lines (tells a) (tells_any b) told)
breaks_lines (sentence.Within r n t) is told x =
    ap (λ c. by_line is_tick x && c) (owed_lines (answers r) (asks t) told n)
breaks_lines (sentence.OneAtATime a b) is told x =
    ap (λ (o : Option ℕ). by_line (is_met a o) x) (held_lines a b told)
breaks_lines (sentence.Always c) is told x = absurd (cc)
breaks_lines (sentence.Rests t) is told x = refl
breaks_lines (sentence.End s t) is told x = absurd (cc)

state_breaks : (e : Sentence) → goes_by_lines e ≡ true → (before : List Seen) (s : KernelState)
    → breaks e before (OfState s) ≡ false
state_breaks (sentence.Never h) is before s = refl
state_breaks (sentence.Before a b) is before s = refl
state_breaks (sentence.NeverAfter h a b) is before s = refl
state_breaks (sentence.Within r n t) is before s = refl
state_breaks (sentence.OneAtATime a b) is before s = refl
state_breaks (sentence.Always c) is before s = absurd (cc)
state_breaks (sentence.Rests t) is before s = refl
state_breaks (sentence.End x t) is before s = absurd (cc)

fails_one : (e : Sentence) → goes_by_lines e ≡ true → (n : ℕ) (x : Seen) (told : List Told)
    → is_some (failure e told) ≡ is_some (failure e (lines_told told))
    → is_some (or_else (failure e told) (if_broken (breaks e (seen_in told) x) n))
    ≡ is_some (failure e (line_before (told_as n x) x (lines_told told)))
fails_one e is n (OfLine l) told h =
    fails_also e n (OfLine l) told
    ∙ ap (λ b. b || breaks e (seen_in told) (OfLine l)) h
    ∙ ap (λ b. is_some (failure e (lines_told told)) || b) (breaks_lines e is told (OfLine l))
    ∙ sym (fails_also e n (OfLine l) (lines_told told))
fails_one e is n (OfState s) told h =
    fails_also e n (OfState s) told
    ∙ ap (λ b. is_some (failure e told) || b) (state_breaks e is (seen_in told) s)
    ∙ or_false (is_some (failure e told))
    ∙ h

fails_lines : (e : Sentence) → goes_by_lines e ≡ true → (told : List Told)
    → is_some (failure e told) ≡ is_some (failure e (lines_told told))
fails_lines e is [] = refl
fails_lines e is (t ∷ told) = fails_one e is t.event t.seen told (fails_lines e is told)

-- nor does the end of a run
end_breaks : (e : Sentence) → goes_by_lines e ≡ true → (states : List TaskState) → breaks_at_end e states ≡ false
end_breaks (sentence.Never h) is states = refl
end_breaks (sentence.Before a b) is states = refl
end_breaks (sentence.NeverAfter h a b) is states = refl
end_breaks (sentence.Within r n t) is states = refl
end_breaks (sentence.OneAtATime a b) is states = refl
end_breaks (sentence.Always c) is states = refl
end_breaks (sentence.Rests t) is states = refl
end_breaks (sentence.End x t) is states = absurd (cc)

outcome_is : (e : Sentence) → goes_by_lines e ≡ true → (told : List Told) (states : List TaskState) (n : ℕ)
    → is_some (outcome e told states n) ≡ is_some (failure e told)
outcome_is e is told states n =
    some_or (failure e told) (if_broken (breaks_at_end e states) n)
    ∙ ap (λ b. is_some (failure e told) || b) (some_if (breaks_at_end e states) n ∙ end_breaks e is states)
    ∙ or_false (is_some (failure e told))

pub some_broken : (x : Expected) (o : Option ℕ) → is_some (broken_at x o None) ≡ is_some o
some_broken x None = refl
some_broken x (Some n) = refl

lines_with : (n : ℕ) (ls : List Line) (told : List Told)
    → lines_told (with_lines n ls told) ≡ with_lines n ls (lines_told told)
lines_with n [] told = refl
lines_with n (l ∷ ls) told = lines_with n ls (record { event = n; seen = OfLine l } ∷ told)

-- a run fails what is broken along its lines
pub judged_along : {B C : Type 0} (meaning : B → Meaning C) (k : KernelView B C) (es : List Event) (x : Expected)
    → goes_by_lines x.sentence ≡ true
    → is_some (verdict (reaction_of meaning) k es (x ∷ []))
    ≡ is_broken_along (at_open x.sentence) (k.lines ∷ (run k.system (meaning k.body) k.bound k.world es).events)
judged_along {B} {C} meaning k es x is =
    let e : Sentence = x.sentence in
    let told : List Told = run_told (reaction_of meaning) k es in
    let last : KernelView B C = view_after_each (reaction_of meaning) k es in
    let events : List (List Line) = (run k.system (meaning k.body) k.bound k.world es).events in
    some_broken x (outcome e told (states_in last) last.done)
    ∙ outcome_is e is told (states_in last) last.done
    ∙ fails_lines e is told
    ∙ ap (λ (ts : List Told). is_some (failure e ts))
    (same_told meaning k es (last_told k [])
    ∙ ap (λ (ts : List Told). with_events (k.done + 1) events ts) (lines_with k.done k.lines []))
    ∙ sym (along e k.done (k.lines ∷ events))
