use Rattle.fmp_foreign.proofs.Following.{agrees}
use Rattle.fmp_foreign.proofs.laws.followed_journals_agree.Goals as goal

pub returns : goal.returns
returns g c = λ body sys F m d n gs k h. agrees g.B.Body.meaning body sys F m d n gs k h
