-- The ranges of the numbers of a command.
use Rattle.std.specs.Prelude.{ℕ, ◌≤◌, ◌^◌, IfSome, ⊤}
use Rattle.fmp.specs.declared.asking.Cmd.{Cmd}
use Rattle.fmp.specs.declared.asking.Cmd.TheVariants.{Check, Build, Sim, Host, Stored}

-- the bound lies from 1 to 2^48
abbrev pub IsBound : ℕ → Type 0
IsBound bound = (1 ≤ bound) × (bound ≤ 2 ^ 48)

-- turns or ticks are 2^20 at most
abbrev pub IsCount : ℕ → Type 0
IsCount count = count ≤ 2 ^ 20

-- a tick comes each second at the latest
abbrev pub IsPeriod : ℕ → Type 0
IsPeriod us = (1 ≤ us) × (us ≤ 1000000)

-- there are 32 interrupts
abbrev pub IsInterrupt : ℕ → Type 0
IsInterrupt i = (1 ≤ i) × (i ≤ 32)

-- the numbers of a command lie in their ranges
abbrev pub KeepsRanges : Cmd → Type 0
KeepsRanges (Check _ _) = ⊤
KeepsRanges (Build _ _ _) = ⊤
KeepsRanges (Sim _ _ bound) = IsBound bound
KeepsRanges (Host _ _ turns ticks bound tick_us interrupt) =
    IsCount turns × IsCount ticks × IsBound bound × IfSome tick_us IsPeriod × IfSome interrupt IsInterrupt
KeepsRanges Stored = ⊤
