use Rattle.std.proofs.Common.{◌∙◌, ap, sym}
use Rattle.fmp_expect.specs.Judges.{broken_here}
use Rattle.fmp_expect.proofs.Judging.{here_done, none_kept, none_undone}
use Rattle.fmp_expect.proofs.judge.judge_one.Goals as goal

pub take-requires : goal.take-requires
take-requires g c = c.requires

pub returns-in-Done : goal.returns-in-Done
returns-in-Done g c =
    let k = c.args.kernel.now in
    let r = g.T.Coming.reaction k c.args.e in
    let breaks = g.J.LineJudge.breaks c.args.judge.now in
    record {
      state = c.take.ensures.state;
      broken = c.broken_here.ensures ∙ ap (broken_here breaks) c.take.ensures.state
          ∙ here_done breaks k r (sym c.in-Done.is ∙ c.take.ensures.effect);
    }

pub returns-in-Kept : goal.returns-in-Kept
returns-in-Kept g c =
    let k = c.args.kernel.now in
    let r = g.T.Coming.reaction k c.args.e in
    record {
      state = c.take.ensures.state;
      broken = none_kept (g.J.LineJudge.breaks c.args.judge.now) k r (sym c.in-Kept.is ∙ c.take.ensures.effect);
    }

pub returns-in-Nothing : goal.returns-in-Nothing
returns-in-Nothing g c =
    let k = c.args.kernel.now in
    let r = g.T.Coming.reaction k c.args.e in
    record {
      state = c.take.ensures.state;
      broken = none_undone (g.J.LineJudge.breaks c.args.judge.now) k r
          (sym c.in-Nothing.is ∙ c.take.ensures.effect);
    }
