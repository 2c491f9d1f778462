use Rattle.fmp_foreign.proofs.Judging.{other_next}
use Rattle.fmp_foreign.proofs.laws.other_acts_are_known.Goals as goal

pub returns : goal.returns
returns g c = λ k p a h. other_next g.B.Body.meaning k p a h
