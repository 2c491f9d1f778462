use Rattle.std.proofs.Common.{arith, refl}
use Rattle.std.proofs.lemmas.Result.{err_from_is_err_and}
use Rattle.fmp_replay.proofs.Replaying.{none_legal}
use Rattle.fmp_session.proofs.session.Session.new.Goals as goal

pub returns-in_err-kernel-clause-session : goal.returns-in_err-kernel-clause-session
returns-in_err-kernel-clause-session c =
    rw ((err_from_is_err_and c.from_residual.result c.from_residual.ensures.1).1) tt

pub returns-in_err-kernel-clause-image : goal.returns-in_err-kernel-clause-image
returns-in_err-kernel-clause-image c =
    rw ((err_from_is_err_and c.from_residual.result c.from_residual.ensures.1).1) tt

pub returns-in_err-kernel-clause-bound : goal.returns-in_err-kernel-clause-bound
returns-in_err-kernel-clause-bound c =
    rw ((err_from_is_err_and c.from_residual.result c.from_residual.ensures.1).1) tt

pub returns-in_err-kernel-clause-events : goal.returns-in_err-kernel-clause-events
returns-in_err-kernel-clause-events c =
    rw ((err_from_is_err_and c.from_residual.result c.from_residual.ensures.1).1) tt

pub returns-clause-session : goal.returns-clause-session
returns-clause-session c =
    record {
      few = rw c.new.ensures.items (omega arith);
      legal = rw c.new.ensures.items (none_legal c.args.image.now c.args.n);
      kernel = rw c.new.ensures.items c.in_ok-kernel.ensures;
    }

pub returns-clause-image : goal.returns-clause-image
returns-clause-image c = refl

pub returns-clause-bound : goal.returns-clause-bound
returns-clause-bound c = refl

pub returns-clause-events : goal.returns-clause-events
returns-clause-events c = c.new.ensures.items
