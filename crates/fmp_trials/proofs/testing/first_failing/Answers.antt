use Rattle.std.proofs.Common.{◌≡◌, ◌∙◌, ◌+◌, ap, false}
use Rattle.fmp_trials.specs.Drawn.{any_of_end}
use Rattle.fmp_trials.proofs.Drawn.{met_there, one_more_met}
use Rattle.fmp_trials.proofs.testing.first_failing.Goals as goal

pub loop-before-preserved : goal.loop-before-preserved
loop-before-preserved g c =
    let meaning = g.B.Body.meaning in
    let breaks = g.J.LineJudge.breaks in
    let s = c.args.bench.now in
    let bench = c.loop-before.bench in
    let same = c.loop-before.invariant.same in
    record {
      same = c.failing_run.ensures.same ∙ same;
      met = λ endless.
          let here : any_of_end bench.expected ≡ false = ap (λ b. any_of_end b.expected) same ∙ endless in
          one_more_met meaning breaks s c.args.plan c.args.seeds.before c.loop-before.before
          (c.loop-before.invariant.met endless)
          (met_there meaning breaks s bench same c.args.plan (c.loop-before.before + 1)
          (rw c.in_default.is at (c.in_ok-run.ensures.met here)));
    }
