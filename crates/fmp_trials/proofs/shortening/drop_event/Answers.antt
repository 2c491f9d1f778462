use Rattle.std.proofs.Common.{◌∙◌, arith, sym}
use Rattle.fmp_trials.proofs.Attempts.{any_can_go, none_can_go_after, fewer_after, left_after, no_longer_after}
use Rattle.fmp_trials.proofs.shortening.drop_event.Goals as goal

pub returns-then-gone-clause-left : goal.returns-then-gone-clause-left
returns-then-gone-clause-left g c =
    left_after g.B.Body.meaning g.J.LineJudge.breaks c.drop_single.new.bench c.args.run.now c.drop_single.new.run
    c.args.place _ c.in_ok-gone.gone (omega arith) (omega (arith, c.requires.place)) c.in_ok-gone.ensures.tried

pub returns-then-gone-clause-after : goal.returns-then-gone-clause-after
returns-then-gone-clause-after g c =
    any_can_go g.B.Body.meaning g.J.LineJudge.breaks c.drop_single.new.bench c.drop_single.new.run c.args.place

pub returns-clause-left : goal.returns-clause-left
returns-clause-left g c =
    left_after g.B.Body.meaning g.J.LineJudge.breaks c.drop_single.new.bench c.args.run.now c.drop_single.new.run
    c.args.place _ c.in_ok-gone.gone (omega arith) (omega (arith, c.requires.place)) c.in_ok-gone.ensures.tried

pub returns-clause-after : goal.returns-clause-after
returns-clause-after g c =
    none_can_go_after g.B.Body.meaning g.J.LineJudge.breaks c.args.bench.now c.drop_single.new.bench c.args.run.now
    c.drop_single.new.run c.args.place c.in_ok-gone.gone c.args.dropped c.drop_single.ensures.same c.if-gone.false
    c.drop_single.ensures.on c.in_ok-gone.ensures.tried c.requires.after

pub returns-then-gone-clause-no_longer : goal.returns-then-gone-clause-no_longer
returns-then-gone-clause-no_longer g c =
    no_longer_after g.B.Body.meaning g.J.LineJudge.breaks c.drop_single.new.bench c.args.run.now c.drop_single.new.run
    c.args.place c.in_ok-gone.gone c.requires.place c.in_ok-gone.ensures.tried

pub returns-then-gone-clause-fewer : goal.returns-then-gone-clause-fewer
returns-then-gone-clause-fewer g c = λ _ _.
    fewer_after g.B.Body.meaning g.J.LineJudge.breaks c.drop_single.new.bench c.args.run.now c.drop_single.new.run
    c.args.place c.in_ok-gone.gone c.requires.place c.in_ok-gone.ensures.tried c.if-gone.true

pub returns-clause-no_longer : goal.returns-clause-no_longer
returns-clause-no_longer g c =
    no_longer_after g.B.Body.meaning g.J.LineJudge.breaks c.drop_single.new.bench c.args.run.now c.drop_single.new.run
    c.args.place c.in_ok-gone.gone c.requires.place c.in_ok-gone.ensures.tried

pub returns-clause-fewer : goal.returns-clause-fewer
returns-clause-fewer g c = λ yes no. absurd (cc (sym yes ∙ no))
