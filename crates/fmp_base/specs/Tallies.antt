-- The number of steps that a tally stands for.
use Rattle.std.specs.Prelude.{ℕ, ◌+◌}
use Rattle.fmp_base.specs.declared.tally.Tally.{Tally}
use Rattle.fmp_base.specs.declared.tally.Tally.TheVariants.{Start, Next'}

-- the first argument of a step is where the tally before was
abbrev pub count_of : Tally → ℕ
count_of Start = 0
count_of (Next' place before) = count_of before + 1
