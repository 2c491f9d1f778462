-- Limits of interrupts: how often one may come, and how many ticks come between two.
use Rattle.std.specs.Prelude.{ℕ, ◌+◌, ◌-◌, Bool, not, ◌||◌, if◌then◌else◌, nat_eq}
use Rattle.fmp_base.specs.declared.events.Line.{Line}
use Rattle.fmp_monitors.specs.declared.standing.Standing.{Standing}
use Rattle.fmp_monitors.specs.declared.standing.Standing.TheVariants as standing
use Rattle.fmp_monitors.specs.Happenings.{is_interrupt, is_tick}
use Rattle.fmp_schedules.specs.declared.limit.InterruptLimit.{InterruptLimit}
use Rattle.fmp_schedules.specs.declared.limit.InterruptLimit.TheVariants as limit

-- how many times the interrupt may still come, or how many ticks must come before it may
abbrev pub left : Standing → ℕ
left (standing.Waiting n) = n
left _ = 0

abbrev pub less : Standing → Standing
less s = standing.Waiting (left s - 1)

abbrev pub interrupt_of : InterruptLimit → ℕ
interrupt_of (limit.AtMost i count) = i
interrupt_of (limit.Apart i ticks) = i

-- before the first line, all times are left, and no tick need come
abbrev pub at_first : InterruptLimit → Standing
at_first (limit.AtMost i count) = standing.Waiting count
at_first (limit.Apart i ticks) = standing.Waiting 0

-- after a line, one time less where it tells the interrupt
abbrev pub counted : (i : ℕ) → Standing → Line → Standing
counted i s l = if is_interrupt i l then less s else s

-- after a line, all ticks again where it tells the interrupt, and one less where it tells a tick
abbrev pub spaced : (i ticks : ℕ) → Standing → Line → Standing
spaced i ticks s l = if is_interrupt i l then standing.Waiting ticks else if is_tick l then less s else s

abbrev pub next : InterruptLimit → Standing → Line → Standing
next (limit.AtMost i count) s l = counted i s l
next (limit.Apart i ticks) s l = spaced i ticks s l

-- the interrupt may come
abbrev pub has_room : InterruptLimit → Standing → Bool
has_room (limit.AtMost i count) s = not (nat_eq (left s) 0)
has_room (limit.Apart i ticks) s = nat_eq (left s) 0

-- the interrupt of this number, from 1, may come
abbrev pub lets : InterruptLimit → Standing → (number : ℕ) → Bool
lets x s number = not (nat_eq (interrupt_of x + 1) number) || has_room x s
