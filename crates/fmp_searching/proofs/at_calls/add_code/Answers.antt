use Rattle.fmp_searching.proofs.at_calls.add_code.Goals as goal
use Rattle.fmp_searching.specs.Questions.{nevers_at_of}

pub returns : goal.returns
unfolding nevers_at_of
returns c = rw c.in_ok-sites.ensures at (rw c.deref.ensures.value at c.add_nevers_at.ensures)
