-- What the monitors of sentences keep, and the numbers that tell it.
use Rattle.std.specs.Prelude.{ℕ, ◌+◌, ◌-◌, ◌<◌, ◌^◌, if◌then◌else◌, nat_eq, nat_lt}
use Rattle.fmp_monitors.specs.declared.standing.Standing.{Standing}
use Rattle.fmp_monitors.specs.declared.standing.Standing.TheVariants as standing

-- fewer than 2^31 ticks may come
abbrev pub IsShort : Standing → Type 0
IsShort standing.Open = Unit {0}
IsShort standing.Held = Unit {0}
IsShort (standing.Inside t) = Unit {0}
IsShort (standing.Waiting n) = n < 2 ^ 31

abbrev pub code : Standing → ℕ
code standing.Open = 0
code standing.Held = 1
code (standing.Inside t) = t + 2
code (standing.Waiting n) = n + 258

abbrev pub standing_coded : ℕ → Standing
standing_coded n =
    if nat_eq n 0 then standing.Open
    else if nat_eq n 1 then standing.Held
    else if nat_lt n 258 then standing.Inside (n - 2)
    else standing.Waiting (n - 258)
