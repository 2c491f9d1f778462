use Rattle.std.proofs.Common.{◌∙◌, ap}
use Rattle.std.proofs.lemmas.Result.{err_from_is_err_and}
use Rattle.fmp_frames.specs.Watches.{after_first}
use Rattle.fmp_looking.proofs.Fresh.{room}
use Rattle.fmp_looking.proofs.why.counted.Goals as goal

pub returns-in_err-kernel-clause-few : goal.returns-in_err-kernel-clause-few
returns-in_err-kernel-clause-few g c =
    rw ((err_from_is_err_and c.from_residual.result c.from_residual.ensures.1).1) tt

pub returns-in_err-kernel-clause-count : goal.returns-in_err-kernel-clause-count
returns-in_err-kernel-clause-count g c =
    rw ((err_from_is_err_and c.from_residual.result c.from_residual.ensures.1).1) tt

pub returns-in_err-kernel-clause-done : goal.returns-in_err-kernel-clause-done
returns-in_err-kernel-clause-done g c =
    rw ((err_from_is_err_and c.from_residual.result c.from_residual.ensures.1).1) tt

pub count_up_to-count-requires : goal.count_up_to-count-requires
count_up_to-count-requires g c = room _ _ c.in_ok-kernel.ensures.taken c.requires

pub returns-clause-few : goal.returns-clause-few
returns-clause-few g c = c.count_up_to-count.ensures.few

pub returns-clause-count : goal.returns-clause-count
returns-clause-count g c = rw c.in_ok-kernel.ensures.start at c.count_up_to-count.ensures.count

pub returns-clause-done : goal.returns-clause-done
returns-clause-done g c =
    c.done-done.ensures
    ∙ ap (λ k. k.done) c.count_up_to-count.ensures.after
    ∙ ap (λ k. (after_first g.T.Coming.reaction k c.args.events.now c.count_up_to-count.result).done)
    c.in_ok-kernel.ensures.start
