use Rattle.std.proofs.Common.{◌∙◌}
use Rattle.fmp_searching.proofs.covering.say_counts.Goals as goal

pub returns : goal.returns
returns c = rw (c.deref.ensures.value ∙ c.in_ok-words.ensures) at c.say_row.ensures
