use Rattle.std.proofs.Common.{◌∙◌, ap}
use Rattle.std.proofs.lemmas.Result.{err_from_is_err_and}
use Rattle.fmp_frames.specs.Frames.{FrameTable}
use Rattle.fmp_frames.specs.Timing.{first_timed}
use Rattle.fmp_looking.proofs.timing.timed.Goals as goal

pub show_all-requires : goal.show_all-requires
show_all-requires g c = record { few = c.requires.few }

pub returns-in_err-setup : goal.returns-in_err-setup
returns-in_err-setup g c =
    rw ((err_from_is_err_and c.from_residual.result c.from_residual.ensures.1).1) tt

pub returns-in_err-timing : goal.returns-in_err-timing
returns-in_err-timing g c =
    rw ((err_from_is_err_and c.from_residual-in_err-timing.result c.from_residual-in_err-timing.ensures.1).1) tt

pub returns-in_err-show_all : goal.returns-in_err-show_all
returns-in_err-show_all g c =
    rw ((err_from_is_err_and c.from_residual-in_err-show_all.result c.from_residual-in_err-show_all.ensures.1).1) tt

pub returns : goal.returns
returns g c =
    record {
      first = c.in_ok-timing.timing;
      begins = c.in_ok-timing.ensures ∙ ap (λ (f : FrameTable). first_timed c.args.times.now f) c.in_ok-setup.ensures;
      frames = c.in_ok-show_all.ensures.shown;
    }
