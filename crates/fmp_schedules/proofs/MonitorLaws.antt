-- Monitors: their lines without the number of the clock, and several monitors at once.
use Rattle.std.proofs.Common.{◌≡◌, List, [], ◌∷◌, ◌++◌, Bool, true, false, ◌||◌, not, refl, sym, ◌∙◌, ap}
use Rattle.std.proofs.Common.{map, ℕ, ◌&&◌}
use Rattle.std.specs.List.{list_any}
use Rattle.fmp_base.specs.declared.events.Event.{Event}
use Rattle.fmp_base.specs.declared.events.Event.TheVariants as event
use Rattle.fmp_base.specs.declared.events.Line.{Line}
use Rattle.fmp_base.specs.declared.events.Line.TheVariants as line
use Rattle.fmp_base.specs.States.{KernelState}
use Rattle.fmp_base.specs.Systems.{SystemTables}
use Rattle.fmp_bisimulation.specs.Alike.{AlikeStates}
use Rattle.fmp_bisimulation.specs.Closed.{all_timeless, timeless}
use Rattle.fmp_monitors.specs.declared.sentence.Sentence.{Sentence}
use Rattle.fmp_monitors.specs.declared.sentence.Sentence.TheVariants as sentence
use Rattle.fmp_monitors.specs.declared.standing.Standing.{Standing}
use Rattle.fmp_schedules.specs.declared.limit.InterruptLimit.{InterruptLimit}
use Rattle.fmp_schedules.specs.declared.limit.InterruptLimit.TheVariants as limit
use Rattle.fmp_schedules.specs.declared.monitor.Monitor.{Monitor}
use Rattle.fmp_schedules.specs.declared.monitor.MonitorSubject.{MonitorSubject}
use Rattle.fmp_schedules.specs.declared.monitor.MonitorSubject.TheVariants as subject
use Rattle.fmp_monitors.specs.Monitors.{breaks_in_state}
use Rattle.fmp_monitors.proofs.AlikeLaws.{holds-same}
use Rattle.fmp_monitors.proofs.TimelessLaws.{breaks_timeless, next_timeless}
use Rattle.fmp_schedules.specs.Schedules.{is_any_broken, monitors_after}
use Rattle.fmp_schedules.specs.Limits as limits
use Rattle.fmp_schedules.specs.Monitors.{are_limiting, breaks, breaks_by, breaks_in, is_any_broken_in, is_broken}
use Rattle.fmp_schedules.specs.Monitors.{is_broken_along, is_broken_in, is_limiting, lets, lets_by, monitor_after}
use Rattle.fmp_schedules.specs.Monitors.{monitor_along, monitor_on, next_by, all_let}

-- ---- the number of the clock

limit-timeless : (x : InterruptLimit) (s : Standing) (l : Line) → limits.next x s l ≡ limits.next x s (timeless l)
limit-timeless (limit.AtMost i count) s (line.Tick clock) = refl
limit-timeless (limit.Apart i ticks) s (line.Tick clock) = refl
limit-timeless x s l = refl

next_by-timeless : (u : MonitorSubject) (s : Standing) (l : Line) → next_by u s l ≡ next_by u s (timeless l)
next_by-timeless (subject.Sentence e) s l = sym (next_timeless e s l)
next_by-timeless (subject.Limit x) s l = limit-timeless x s l

breaks_by-timeless : (u : MonitorSubject) (s : Standing) (l : Line) → breaks_by u s l ≡ breaks_by u s (timeless l)
breaks_by-timeless (subject.Sentence e) s l = sym (breaks_timeless e s l)
breaks_by-timeless (subject.Limit x) s l = refl

monitor_on-timeless : (m : Monitor) (l : Line) → monitor_on m l ≡ monitor_on m (timeless l)
monitor_on-timeless m l =
    ap (λ (x : Standing). record m { standing = x }) (next_by-timeless m.subject m.standing l)

breaks-timeless : (m : Monitor) (l : Line) → breaks m l ≡ breaks m (timeless l)
breaks-timeless m l = breaks_by-timeless m.subject m.standing l

monitor_after-timeless : (s : Monitor) (ls : List Line) → monitor_after s ls ≡ monitor_after s (all_timeless ls)
monitor_after-timeless s [] = refl
monitor_after-timeless s (l ∷ ls) =
    ap (λ (x : Monitor). monitor_after x ls) (monitor_on-timeless s l)
    ∙ monitor_after-timeless (monitor_on s (timeless l)) ls

is_broken-timeless : (s : Monitor) (ls : List Line) → is_broken s ls ≡ is_broken s (all_timeless ls)
is_broken-timeless s [] = refl
is_broken-timeless s (l ∷ ls) =
    ap (λ (b : Bool). b || is_broken (monitor_on s l) ls) (breaks-timeless s l)
    ∙ ap (λ (x : Monitor). breaks s (timeless l) || is_broken x ls) (monitor_on-timeless s l)
    ∙ ap (λ (b : Bool). breaks s (timeless l) || b) (is_broken-timeless (monitor_on s (timeless l)) ls)

pub monitors-timeless : (ss : List Monitor) (ls : List Line)
    → monitors_after ss ls ≡ monitors_after ss (all_timeless ls)
monitors-timeless [] ls = refl
monitors-timeless (s ∷ ss) ls =
    ap (λ (x : Monitor). x ∷ monitors_after ss ls) (monitor_after-timeless s ls)
    ∙ ap (λ (xs : List Monitor). monitor_after s (all_timeless ls) ∷ xs) (monitors-timeless ss ls)

pub any_broken-timeless : (ss : List Monitor) (ls : List Line)
    → is_any_broken ss ls ≡ is_any_broken ss (all_timeless ls)
any_broken-timeless [] ls = refl
any_broken-timeless (s ∷ ss) ls =
    ap (λ (b : Bool). b || is_any_broken ss ls) (is_broken-timeless s ls)
    ∙ ap (λ (b : Bool). is_broken s (all_timeless ls) || b) (any_broken-timeless ss ls)

-- ---- alike states

-- a state breaks what one that is alike breaks
broken_in-alike : (sys : SystemTables) (s u : KernelState) → AlikeStates sys s u → (e : Sentence)
    → breaks_in_state e s ≡ breaks_in_state e u
broken_in-alike sys s u h (sentence.Always c) = ap (λ (b : Bool). not b) (holds-same sys s u h c)
broken_in-alike sys s u h (sentence.Never x) = refl
broken_in-alike sys s u h (sentence.Before a b) = refl
broken_in-alike sys s u h (sentence.NeverAfter x a b) = refl
broken_in-alike sys s u h (sentence.Within r n t) = refl
broken_in-alike sys s u h (sentence.OneAtATime a b) = refl
broken_in-alike sys s u h (sentence.Rests t) = refl
broken_in-alike sys s u h (sentence.End w t) = refl

subject-alike : (sys : SystemTables) (s u : KernelState) → AlikeStates sys s u → (x : MonitorSubject)
    → breaks_in x s ≡ breaks_in x u
subject-alike sys s u h (subject.Sentence e) = broken_in-alike sys s u h e
subject-alike sys s u h (subject.Limit x) = refl

pub any_broken_in-alike : (sys : SystemTables) (s u : KernelState) → AlikeStates sys s u → (ms : List Monitor)
    → is_any_broken_in ms s ≡ is_any_broken_in ms u
any_broken_in-alike sys s u h [] = refl
any_broken_in-alike sys s u h (m ∷ ms) =
    ap (λ (b : Bool). b || is_any_broken_in ms s) (subject-alike sys s u h m.subject)
    ∙ ap (λ (b : Bool). is_broken_in m u || b) (any_broken_in-alike sys s u h ms)

-- ---- one more event

-- a line of these events breaks one of these sentences
abbrev pub any_broken_along : List Monitor → List (List Line) → Bool
any_broken_along ss events = list_any (λ s. is_broken_along s events) ss

pub none-along : (ss : List Monitor) → any_broken_along ss [] ≡ false
none-along [] = refl
none-along (s ∷ ss) = none-along ss

or-swap : (a b c d : Bool) → ((a || b) || (c || d)) ≡ ((a || c) || (b || d))
or-swap true b c d = refl
or-swap false true true d = refl
or-swap false true false d = refl
or-swap false false c d = refl

pub any-along : (ss : List Monitor) (ls : List Line) (events : List (List Line))
    → (is_any_broken ss ls || any_broken_along (monitors_after ss ls) events) ≡ any_broken_along ss (ls ∷ events)
any-along [] ls events = refl
any-along (s ∷ ss) ls events =
    or-swap (is_broken s ls) (is_any_broken ss ls) (is_broken_along (monitor_after s ls) events)
    (any_broken_along (monitors_after ss ls) events)
    ∙ ap (λ (b : Bool). (is_broken s ls || is_broken_along (monitor_after s ls) events) || b) (any-along ss ls events)

-- ---- the last event

pub along-last : (s : Monitor) (events : List (List Line)) (ls : List Line)
    → monitor_along s (events ++ ls ∷ []) ≡ monitor_after (monitor_along s events) ls
along-last s [] ls = refl
along-last s (ms ∷ events) ls = along-last (monitor_after s ms) events ls

-- the monitors after events and one more
pub monitors-last : (ss : List Monitor) (events : List (List Line)) (ls : List Line)
    → map (λ s. monitor_along s (events ++ ls ∷ [])) ss
    ≡ monitors_after (map (λ s. monitor_along s events) ss) ls
monitors-last [] events ls = refl
monitors-last (s ∷ ss) events ls =
    ap (λ (x : Monitor). x ∷ map (λ s. monitor_along s (events ++ ls ∷ [])) ss) (along-last s events ls)
    ∙ ap (λ (xs : List Monitor). monitor_after (monitor_along s events) ls ∷ xs) (monitors-last ss events ls)

-- ---- limits

after-subject : (m : Monitor) (ls : List Line) → (monitor_after m ls).subject ≡ m.subject
after-subject m [] = refl
after-subject m (l ∷ ls) = after-subject (monitor_on m l) ls

-- lines change no limit
pub limiting-after : (ms : List Monitor) (ls : List Line) → are_limiting (monitors_after ms ls) ≡ are_limiting ms
limiting-after [] ls = refl
limiting-after (m ∷ ms) ls =
    ap (λ (x : MonitorSubject). is_limiting x || are_limiting (monitors_after ms ls)) (after-subject m ls)
    ∙ ap (λ (b : Bool). is_limiting m.subject || b) (limiting-after ms ls)

subject-lets : (u : MonitorSubject) (s : Standing) (number : ℕ) → is_limiting u ≡ false → lets_by u s number ≡ true
subject-lets (subject.Sentence e) s number h = refl
subject-lets (subject.Limit x) s number h = cc

monitor-lets : (m : Monitor) (e : Event) → is_limiting m.subject ≡ false → lets m e ≡ true
monitor-lets m (event.Run p) h = refl
monitor-lets m event.Tick h = refl
monitor-lets m (event.Int number) h = subject-lets m.subject m.standing number h

none-first : (a b : Bool) → (a || b) ≡ false → (a ≡ false) × (b ≡ false)
none-first true b h = cc
none-first false b h = (refl, h)

-- sentences hold nothing back
pub sentences-let : (ms : List Monitor) (e : Event) → are_limiting ms ≡ false → all_let ms e ≡ true
sentences-let [] e h = refl
sentences-let (m ∷ ms) e h =
    let parts = none-first (is_limiting m.subject) (are_limiting ms) h in
    ap (λ (b : Bool). b && all_let ms e) (monitor-lets m e parts.0) ∙ sentences-let ms e parts.1

-- nor is anything but an interrupt held back
pub runs-let : (ms : List Monitor) (p : ℕ) → all_let ms (event.Run p) ≡ true
runs-let [] p = refl
runs-let (m ∷ ms) p = runs-let ms p

pub ticks-let : (ms : List Monitor) → all_let ms event.Tick ≡ true
ticks-let [] = refl
ticks-let (m ∷ ms) = ticks-let ms
