use Rattle.std.proofs.Common.{◌≡◌, subst}
use Rattle.std.specs.Result.{IfOk}
use Rattle.fmp_kernel.specs.Comings.{reaction_of}
use Rattle.fmp_trials.specs.Verdicts.{verdict}
use Rattle.fmp_trials.proofs.Besides.{put_beside, put_room}
use Rattle.fmp_trials.proofs.bench.Bench.shown.Goals as goal

pub run_verdict-requires : goal.run_verdict-requires
run_verdict-requires g c =
    put_room c.put_back.new.self c.self.inside.start _ c.put_back.ensures c.self.invariant.1 c.requires

pub invariant_of-self : goal.invariant_of-self
invariant_of-self g c = (
  put_beside c.put_back.new.self c.self.inside.start c.run_verdict.new.kernel c.put_back.ensures
      c.run_verdict.ensures.beside,
  c.self.invariant.1,
)

pub returns-clause-verdict : goal.returns-clause-verdict
returns-clause-verdict g c =
    rw (← c.self.view_is)
    (subst
    (λ v. IfOk c.run_verdict.result
    (λ broken. broken ≡ verdict (reaction_of g.B.Body.meaning) v c.args.events.now c.self.inside.expected.now))
    c.put_back.ensures c.run_verdict.ensures.verdict)
