-- Which interrupts have handlers.
use Rattle.std.specs.Prelude.{ℕ, Bool, nat_eq}
use Rattle.std.specs.List.{list_any}
use Rattle.fmp_base.specs.Systems.{SystemTables}

-- the interrupt of a number has a handler
abbrev pub is_handled : SystemTables → ℕ → Bool
is_handled sys n = list_any (λ i. nat_eq i.number n) sys.interrupts
