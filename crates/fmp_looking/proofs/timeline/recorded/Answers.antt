use Rattle.std.proofs.Common.{◌∙◌, ap}
use Rattle.std.proofs.lemmas.Result.{err_from_is_err_and}
use Rattle.fmp_frames.specs.Frames.{FrameTable}
use Rattle.fmp_timeline.specs.Shown.{tasks_shown}
use Rattle.fmp_looking.proofs.timeline.recorded.Goals as goal

pub show_all-requires : goal.show_all-requires
show_all-requires g c = record { few = c.requires.few }

pub returns-in_err-setup : goal.returns-in_err-setup
returns-in_err-setup g c =
    rw ((err_from_is_err_and c.from_residual.result c.from_residual.ensures.1).1) tt

pub returns-in_err-recorder : goal.returns-in_err-recorder
returns-in_err-recorder g c =
    rw ((err_from_is_err_and c.from_residual-in_err-recorder.result c.from_residual-in_err-recorder.ensures.1).1) tt

pub returns-in_err-show_all : goal.returns-in_err-show_all
returns-in_err-show_all g c =
    rw ((err_from_is_err_and c.from_residual-in_err-show_all.result c.from_residual-in_err-show_all.ensures.1).1) tt

pub returns : goal.returns
returns g c =
    record {
      first = c.in_ok-recorder.recorder;
      begins = c.in_ok-recorder.ensures
          ∙ ap (λ (f : FrameTable). tasks_shown f.states f.blocks f.processors) c.in_ok-setup.ensures;
      frames = c.in_ok-show_all.ensures.shown;
    }
