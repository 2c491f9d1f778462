use Rattle.fmp_arguments.proofs.given.bound_of.Goals as goal

pub returns : goal.returns
returns c = (c.word64_of.result, c.word64_of.ensures, c.unwrap_or.ensures)
