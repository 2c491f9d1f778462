use Rattle.fmp_searching.specs.Extent.{count_line}
use Rattle.fmp_searching.proofs.covering.say_unmade_count.Goals as goal

pub returns : goal.returns
unfolding count_line
returns c = c.say_number.ensures
