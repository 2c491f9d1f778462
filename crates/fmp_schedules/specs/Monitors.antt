-- Monitors along the lines of the trace: sentences and limits of interrupts, each with what is kept of it.
use Rattle.std.specs.Prelude.{ℕ, ◌≡◌, List, [], ◌∷◌, Some, Bool, true, false, slice_get, take, ◌||◌}
use Rattle.std.specs.List.{list_all, list_any}
use Rattle.fmp_base.specs.declared.events.Event.{Event}
use Rattle.fmp_base.specs.declared.events.Event.TheVariants as event
use Rattle.fmp_base.specs.declared.events.Line.{Line}
use Rattle.fmp_base.specs.States.{KernelState}
use Rattle.fmp_monitors.specs.declared.sentence.Sentence.{Sentence}
use Rattle.fmp_monitors.specs.declared.standing.Standing.{Standing}
use Rattle.fmp_monitors.specs.declared.standing.Standing.TheVariants as standing
use Rattle.fmp_monitors.specs.Monitors.{breaks_by_line, breaks_in_state, next_by_line}
use Rattle.fmp_schedules.specs.declared.limit.InterruptLimit.{InterruptLimit}
use Rattle.fmp_schedules.specs.declared.monitor.Breach.{Breach}
use Rattle.fmp_schedules.specs.declared.monitor.Monitor.{Monitor}
use Rattle.fmp_schedules.specs.declared.monitor.MonitorSubject.{MonitorSubject}
use Rattle.fmp_schedules.specs.declared.monitor.MonitorSubject.TheVariants as subject
use Rattle.fmp_schedules.specs.Limits as limits

-- a sentence of which nothing is kept
abbrev pub at_open : Sentence → Monitor
at_open sentence = record { subject = subject.Sentence sentence; standing = standing.Open }

-- a limit before any event
abbrev pub at_limit : InterruptLimit → Monitor
at_limit x = record { subject = subject.Limit x; standing = limits.at_first x }

-- what is kept after one more line
abbrev pub next_by : MonitorSubject → Standing → Line → Standing
next_by (subject.Sentence e) s l = next_by_line e s l
next_by (subject.Limit x) s l = limits.next x s l

-- a line breaks a sentence of which this is kept
abbrev pub breaks_by : MonitorSubject → Standing → Line → Bool
breaks_by (subject.Sentence e) s l = breaks_by_line e s l
breaks_by (subject.Limit x) s l = false

-- a state breaks a sentence
abbrev pub breaks_in : MonitorSubject → KernelState → Bool
breaks_in (subject.Sentence e) u = breaks_in_state e u
breaks_in (subject.Limit x) u = false

-- an interrupt of this number may come, as far as a limit says
abbrev pub lets_by : MonitorSubject → Standing → (number : ℕ) → Bool
lets_by (subject.Sentence e) s number = true
lets_by (subject.Limit x) s number = limits.lets x s number

-- a monitor after one more line
abbrev pub monitor_on : Monitor → Line → Monitor
monitor_on m l = record m { standing = next_by m.subject m.standing l }

abbrev pub monitor_after : Monitor → List Line → Monitor
monitor_after m [] = m
monitor_after m (l ∷ ls) = monitor_after (monitor_on m l) ls

-- a line breaks the sentence
abbrev pub breaks : Monitor → Line → Bool
breaks m l = breaks_by m.subject m.standing l

-- one of these lines does
abbrev pub is_broken : Monitor → List Line → Bool
is_broken m [] = false
is_broken m (l ∷ ls) = breaks m l || is_broken (monitor_on m l) ls

-- the line at a place of these is the first that breaks the sentence, of which this was kept before it
pub record IsBreach (m : Monitor) (ls : List Line) (b : Breach) : Type 0 where
  pub first : is_broken m (take b.place ls) ≡ false
  pub line : Line
  pub there : slice_get ls b.place ≡ Some line
  pub standing : (monitor_after m (take b.place ls)).standing ≡ b.standing
  pub breaks : breaks (monitor_after m (take b.place ls)) line ≡ true

-- the same over the lines of events
abbrev pub monitor_along : Monitor → List (List Line) → Monitor
monitor_along m [] = m
monitor_along m (ls ∷ events) = monitor_along (monitor_after m ls) events

abbrev pub is_broken_along : Monitor → List (List Line) → Bool
is_broken_along m [] = false
is_broken_along m (ls ∷ events) = is_broken m ls || is_broken_along (monitor_after m ls) events

-- a state after setup, or after an event, breaks the sentence
abbrev pub is_broken_in : Monitor → KernelState → Bool
is_broken_in m s = breaks_in m.subject s

-- it breaks one of these sentences
abbrev pub is_any_broken_in : List Monitor → KernelState → Bool
is_any_broken_in monitors s = list_any (λ m. is_broken_in m s) monitors

-- a limit, if the monitor is of one, lets an event come
abbrev pub lets : Monitor → Event → Bool
lets m (event.Int number) = lets_by m.subject m.standing number
lets m _ = true

-- each limit among these does
abbrev pub all_let : List Monitor → Event → Bool
all_let monitors e = list_all (λ m. lets m e) monitors

abbrev pub is_limiting : MonitorSubject → Bool
is_limiting (subject.Sentence e) = false
is_limiting (subject.Limit x) = true

-- there is a limit among these
abbrev pub are_limiting : List Monitor → Bool
are_limiting monitors = list_any (λ m. is_limiting m.subject) monitors
