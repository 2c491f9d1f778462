use Rattle.std.proofs.Common.{◌≡◌, subst, sym}
use Rattle.fmp_expect.specs.Judges.{broken_along}
use Rattle.fmp_expect.proofs.Judging.{idle_along}
use Rattle.fmp_kernel.specs.Comings.{reaction_of}
use Rattle.fmp_trials.proofs.Besides.{beside_each, beside_same, put_beside, put_room}
use Rattle.fmp_trials.proofs.bench.Bench.judged.Goals as goal

pub returns-then-is_idle-clause-broken : goal.returns-then-is_idle-clause-broken
returns-then-is_idle-clause-broken g c =
    let b = c.args.self.now in
    sym (idle_along (g.J.LineJudge.breaks b.judge) (c.is_idle.ensures c.if-is_idle.true) (reaction_of g.B.Body.meaning)
    b.start c.args.events.now)

pub judge_run-requires : goal.judge_run-requires
judge_run-requires g c =
    put_room c.put_back.new.self c.self.inside.start _ c.put_back.ensures c.self.invariant.1 c.requires

pub invariant_of-self : goal.invariant_of-self
invariant_of-self g c = (
  put_beside c.put_back.new.self c.self.inside.start c.judge_run.new.kernel c.put_back.ensures
      (beside_same c.put_back.new.self _ c.judge_run.new.kernel
      (beside_each (reaction_of g.B.Body.meaning) c.put_back.new.self c.args.events.now) c.judge_run.ensures.state),
  c.self.invariant.1,
)

pub returns-clause-broken : goal.returns-clause-broken
returns-clause-broken g c =
    rw (← c.self.view_is)
    (subst
    (λ v. c.judge_run.result
    ≡ broken_along (g.J.LineJudge.breaks c.self.inside.judge.now) (reaction_of g.B.Body.meaning) v c.args.events.now)
    c.put_back.ensures c.judge_run.ensures.broken)
