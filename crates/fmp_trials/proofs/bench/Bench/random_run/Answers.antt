use Rattle.std.proofs.Common.{subst}
use Rattle.std.specs.Result.{IfOk}
use Rattle.fmp_trials.specs.Drawn.{IsDrawn}
use Rattle.fmp_trials.proofs.Besides.{put_beside, put_fresh}
use Rattle.fmp_trials.proofs.bench.Bench.random_run.Goals as goal

pub random_run-requires : goal.random_run-requires
random_run-requires g c =
    put_fresh c.put_back.new.self c.self.inside.start c.put_back.ensures c.self.invariant.1

pub invariant_of-self : goal.invariant_of-self
invariant_of-self g c = (
  put_beside c.put_back.new.self c.self.inside.start c.random_run.new.kernel c.put_back.ensures
      c.random_run.ensures.beside,
  c.self.invariant.1,
)

pub returns-clause-drawn : goal.returns-clause-drawn
returns-clause-drawn g c =
    rw (← c.self.view_is)
    (subst
    (λ v. IfOk c.random_run.result
    (IsDrawn g.B.Body.meaning v c.self.inside.expected.now c.args.choices.now))
    c.put_back.ensures (c.random_run.ensures.drawn c.self.inside.expected.now c.in_ok-checker.ensures))
