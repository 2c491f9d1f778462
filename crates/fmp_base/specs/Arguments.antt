-- The range of a time limit.
use Rattle.std.specs.Prelude.{◌≤◌, ◌^◌}
use Rattle.fmp_base.specs.declared.states.TimeLimit.{TimeLimit}
use Rattle.fmp_base.specs.declared.states.TimeLimit.TheVariants.{Forever, Poll, Ticks}

-- this many ticks are at most 2^30
abbrev pub IsTimeLimit : TimeLimit → Type 0
IsTimeLimit Forever = Unit {0}
IsTimeLimit Poll = Unit {0}
IsTimeLimit (Ticks n) = n ≤ 2 ^ 30
