-- What the next tick finds.
use Rattle.fmp_base.specs.States.{Progress}
use Rattle.fmp_base.specs.Ticks.{with_clock_advanced}

-- the clock advances by one
abbrev pub at_tick : Progress → Progress
at_tick g = record g { state = with_clock_advanced g.state }
