-- Kinds of the fields of a state.
use Rattle.std.specs.Prelude.{Bool, true, false}
use Rattle.fmp_fields.specs.declared.field.What.{What}
use Rattle.fmp_fields.specs.declared.field.What.TheVariants.{Activations, Wakeups}

-- it is how many activations or wakeups of a task are queued
abbrev pub counts_queued : What → Bool
counts_queued (Activations t) = true
counts_queued (Wakeups t) = true
counts_queued _ = false
