use Rattle.std.proofs.Common.{rules}
use Rattle.fmp_trials.proofs.Attempts.{shortest_at}
use Rattle.fmp_trials.proofs.shortening.drop_until_none.Goals as goal

pub returns-then-not-dropped-clause-shortest : goal.returns-then-not-dropped-clause-shortest
returns-then-not-dropped-clause-shortest g c = λ some.
    shortest_at g.B.Body.meaning g.J.LineJudge.breaks c.drop_events.new.bench c.drop_events.new.run
    c.in_ok-dropped.dropped c.if-not-dropped.true (search rules) c.in_ok-dropped.ensures.all
