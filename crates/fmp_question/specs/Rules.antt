-- Which events may come, as a question says.
use Rattle.std.specs.Prelude.{Bool, true, false}
use Rattle.fmp_question.specs.declared.question.Question.{Question}
use Rattle.fmp_question.specs.declared.question.Ticks.{Ticks}
use Rattle.fmp_question.specs.declared.question.Ticks.TheVariants as ticks
use Rattle.fmp_schedules.specs.Schedules.{Rules}

-- the clock may advance only where no processor can do anything
abbrev pub is_idle : Ticks → Bool
is_idle ticks.Any = false
is_idle ticks.Idle = true

abbrev pub rules_of : Question → Rules
rules_of q =
    record { idle_ticks = is_idle q.ticks; most = q.interrupts; queued = q.queued; monitors = q.monitors.items }
