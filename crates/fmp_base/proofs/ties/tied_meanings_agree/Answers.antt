use Rattle.fmp_base.specs.TieLaws.{setup_run-tied}
use Rattle.fmp_base.proofs.ties.tied_meanings_agree.Goals as goal

pub returns : goal.returns
returns g c sys es = setup_run-tied sys g.T.Tie.tied g.T.Tie.first g.T.Tie.first_bound g.T.Tie.second
    g.T.Tie.second_bound g.T.Tie.keeps es
