-- Stamps: whether a ticket is still that of its processor.
use Rattle.std.specs.Prelude.{ℕ, Option, Some, None, Bool, false, ◌==◌}

-- the stamp of the processor is the one at which the ticket was drawn
abbrev pub is_current : Option ℕ → (drawn : ℕ) → Bool
is_current None drawn = false
is_current (Some now) drawn = now == drawn
