use Rattle.fmp_library_tests.specs.PulseLemmas.{pulses_are_there}
use Rattle.fmp_library_tests.proofs.tests.pulses.pulses.Goals as goal

pub new-requires-clause-entries : goal.new-requires-clause-entries
new-requires-clause-entries c = pulses_are_there _ _

pub new-requires-clause-range : goal.new-requires-clause-range
new-requires-clause-range c = c.in_ok-system.ensures.rules.ranges
