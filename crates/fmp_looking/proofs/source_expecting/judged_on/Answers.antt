use Rattle.std.proofs.Common.{◌∙◌, ap}
use Rattle.std.proofs.lemmas.Result.{err_from_is_err_and}
use Rattle.fmp_expect.specs.Judges.{broken_along}
use Rattle.fmp_instructions.specs.Machine.{code_meaning}
use Rattle.fmp_kernel.specs.Comings.{reaction_of}
use Rattle.fmp_looking.specs.CallSentences.{JudgeTables, breaks_by, judge_of}
use Rattle.fmp_looking.proofs.Fresh.{room_of_steps}
use Rattle.fmp_looking.proofs.source_expecting.judged_on.Goals as goal

pub returns-in_err-kernel : goal.returns-in_err-kernel
returns-in_err-kernel c = rw ((err_from_is_err_and c.from_residual.result c.from_residual.ensures.1).1) tt

pub judge_run-broken-requires : goal.judge_run-broken-requires
judge_run-broken-requires c = room_of_steps _ _ c.in_ok-kernel.ensures.taken c.requires

pub returns : goal.returns
returns c =
    c.judge_run-broken.ensures.broken
    ∙ ap
    (λ (j : JudgeTables). broken_along (breaks_by j) (reaction_of code_meaning) c.in_ok-kernel.kernel c.args.events.now)
    c.new-judge.ensures
    ∙ ap
    (λ k. broken_along (breaks_by (judge_of c.args.opened.now.image.now c.args.nevers.now)) (reaction_of code_meaning) k
    c.args.events.now) c.in_ok-kernel.ensures.start
